-- Laws of reading tokens byte by byte. Assumes nothing.
use Rattle.sequences.proofs.Basics.{◌≡◌, refl, sym, ap, ◌∙◌, ℕ, suc, ◌+◌, ◌-◌, ◌*◌, ◌≤◌, ◌<◌, add-one, arith, Bool, true, false, cond, List, [], ◌∷◌, ◌++◌, map}
use Rattle.sequences.proofs.Basics.{append_assoc, append-nil, eqb, lit<, length, get_or, take, drop, set, length-set, take-suc-set, drop-cons, ne_eqb}
use Rattle.radices.specs.Lists.{is_radix}
use Rattle.tokens.specs.Tokens.{is_blank, ended, tokens_from, tokens, digit_value, radix_of, radices}
use Rattle.tokens.specs.Reading.{grown, size, room, pushed, ended_by, ended_token, step_by, stepped}
use Rattle.tokens.specs.declared.inner.tokens.Token.{Token}
use Rattle.tokens.specs.declared.inner.tokens.Token.TheVariants.{Nothing, One, More}
use Rattle.tokens.specs.declared.inner.tokens.Reading.{Reading}

-- what is kept of the bytes of a token
kept : List ℕ → Token
kept [] = Nothing
kept (b ∷ []) = One b
kept (b ∷ (a ∷ t)) = More

-- the radix of a token that ends, if there is one
abbrev closed : Token → List ℕ
closed Nothing = []
closed (One b) = digit_value b ∷ []
closed More = 0 ∷ []

-- the radices of a text whose first token has begun
unfoldable pub radices_from : Token → List ℕ → List ℕ
radices_from t [] = closed t
radices_from t (b ∷ bs) = cond (is_blank b) (closed t ++ radices_from Nothing bs) (radices_from (grown t b) bs)

-- what is kept of a longer token
kept_grown : (t : List ℕ) (b : ℕ) → kept (t ++ (b ∷ [])) ≡ grown (kept t) b
unfolding kept
kept_grown [] b = refl
kept_grown (a ∷ []) b = refl
kept_grown (a ∷ (c ∷ t)) b = refl

-- the radix of a token that ends, before the others
closed_kept : (t : List ℕ) (rest : List (List ℕ)) → map radix_of (ended t rest) ≡ closed (kept t) ++ map radix_of rest
unfolding kept radix_of
closed_kept [] rest = refl
closed_kept (a ∷ []) rest = refl
closed_kept (a ∷ (c ∷ t)) rest = refl

-- what is kept of a token is enough
from_kept : (t : List ℕ) (bs : List ℕ) → map radix_of (tokens_from t bs) ≡ radices_from (kept t) bs
unfolding tokens_from radices_from kept
from_kept t [] = closed_kept t [] ∙ append-nil (closed (kept t))
from_kept t (b ∷ bs) = go (is_blank b) (from_kept [] bs) (from_kept (t ++ (b ∷ [])) bs)
  where
    go : (x : Bool) → map radix_of (tokens_from [] bs) ≡ radices_from Nothing bs
        → map radix_of (tokens_from (t ++ (b ∷ [])) bs) ≡ radices_from (kept (t ++ (b ∷ []))) bs
        → map radix_of (cond x (ended t (tokens_from [] bs)) (tokens_from (t ++ (b ∷ [])) bs))
        ≡ cond x (closed (kept t) ++ radices_from Nothing bs) (radices_from (grown (kept t) b) bs)
    go true p q = closed_kept t (tokens_from [] bs) ∙ ap (λ (l : List ℕ). closed (kept t) ++ l) p
    go false p q = q ∙ ap (λ (k : Token). radices_from k bs) (kept_grown t b)

-- the radices that a reading gives, with the bytes that are left
unfoldable pub gives : Reading → List ℕ → List ℕ
unfolding radices_from
gives s bs = take s.count s.list ++ radices_from s.token bs

-- at the start
pub gives_start : (s : Reading) (bs : List ℕ) → s.count ≡ 0 → s.token ≡ Nothing → gives s bs ≡ radices bs
unfolding gives radices tokens kept
gives_start s bs p q = ap (λ (k : ℕ). take k s.list ++ radices_from s.token bs) p ∙ ap (λ (k : Token). radices_from k bs) q ∙ sym (from_kept [] bs)

-- a token that ended as a radix
gives_pushed : (s : Reading) (v : ℕ) (bs : List ℕ) → s.count < length s.list
    → take s.count s.list ++ ((v ∷ []) ++ radices_from Nothing bs) ≡ gives (pushed s v) bs
unfolding gives
gives_pushed s v bs h =
    sym (ap (λ (l : List ℕ). l ++ radices_from Nothing bs) (ap (λ (k : ℕ). take k (set s.list s.count v)) (add-one s.count)
    ∙ take-suc-set s.list s.count v h)
    ∙ append_assoc (take s.count s.list) (v ∷ []) (radices_from Nothing bs))

-- at a blank
gives_blank : (s : Reading) (t : Token) (bs : List ℕ) → s.token ≡ t → 2 * s.count + size t ≤ 4096 → length s.list ≡ 2048
    → take s.count s.list ++ (closed t ++ radices_from Nothing bs) ≡ gives (ended_by t s) bs
unfolding gives
gives_blank s Nothing bs e h l = ap (λ (k : Token). take s.count s.list ++ radices_from k bs) (sym e)
gives_blank s (One b) bs e h l = gives_pushed s (digit_value b) bs (omega arith)
gives_blank s More bs e h l = gives_pushed s 0 bs (omega arith)

-- after one byte more
gives_step : (s : Reading) (b : ℕ) (bs : List ℕ) → room s ≤ 4096 → length s.list ≡ 2048 → gives s (b ∷ bs) ≡ gives (stepped s b) bs
unfolding gives radices_from
gives_step s b bs h l = go (is_blank b)
  where
    go : (x : Bool) → take s.count s.list ++ cond x (closed s.token ++ radices_from Nothing bs) (radices_from (grown s.token b) bs)
        ≡ gives (step_by x s b) bs
    go true = gives_blank s s.token bs refl h l
    go false = refl

-- at the next byte of a text
pub gives_next : (s : Reading) (text : List ℕ) (i : ℕ) → i < length text → room s ≤ 4096 → length s.list ≡ 2048
    → gives (stepped s (get_or text i 0)) (drop (i + 1) text) ≡ gives s (drop i text)
gives_next s text i p h l = ap (λ (k : ℕ). gives (stepped s (get_or text i 0)) (drop k text)) (add-one i)
    ∙ sym (gives_step s (get_or text i 0) (drop (suc i) text) h l) ∙ ap (gives s) (sym (drop-cons text i 0 p))

-- no token is left
ended_nothing : (s : Reading) (t : Token) → s.token ≡ t → (ended_by t s).token ≡ Nothing
ended_nothing s Nothing e = e
ended_nothing s (One b) e = refl
ended_nothing s More e = refl

-- at the end
pub gives_end : (s : Reading) → room s ≤ 4096 → length s.list ≡ 2048 → gives s [] ≡ take (ended_token s).count (ended_token s).list
unfolding gives radices_from
gives_end s h l = ap (λ (r : List ℕ). take s.count s.list ++ r) (sym (append-nil (closed s.token))) ∙ gives_blank s s.token [] refl h l
    ∙ ap (λ (k : Token). take (ended_token s).count (ended_token s).list ++ radices_from k []) (ended_nothing s s.token refl)
    ∙ append-nil (take (ended_token s).count (ended_token s).list)

-- the list keeps its length where a token ends
ended_length : (s : Reading) (t : Token) → length (ended_by t s).list ≡ length s.list
ended_length s Nothing = refl
ended_length s (One b) = length-set s.list s.count (digit_value b)
ended_length s More = length-set s.list s.count 0

-- and at any byte
pub step_length : (s : Reading) (b : ℕ) → length (stepped s b).list ≡ length s.list
step_length s b = go (is_blank b)
  where
    go : (x : Bool) → length (step_by x s b).list ≡ length s.list
    go true = ended_length s s.token
    go false = refl

-- a token that ends takes a byte of room
ended_room : (s : Reading) (t : Token) → s.token ≡ t → room (ended_by t s) ≤ 2 * s.count + size t + 1
ended_room s Nothing e = omega (arith, ap size e)
ended_room s (One b) e = omega arith
ended_room s More e = omega arith

-- and so does one that goes on
grown_size : (t : Token) (b : ℕ) → size (grown t b) ≤ size t + 1
grown_size Nothing b = omega arith
grown_size (One a) b = omega arith
grown_size More b = omega arith

-- and so does any byte
pub step_room : (s : Reading) (b : ℕ) → room (stepped s b) ≤ room s + 1
step_room s b = go (is_blank b)
  where
    go : (x : Bool) → room (step_by x s b) ≤ room s + 1
    go true = ended_room s s.token refl
    go false = omega (arith, grown_size s.token b)

-- what has ended fits the list
pub ended_fits : (s : Reading) → room s ≤ 4096 → length s.list ≡ 2048 → (ended_token s).count ≤ length (ended_token s).list
ended_fits s h l = go s.token h
  where
    go : (t : Token) → 2 * s.count + size t ≤ 4096 → (ended_by t s).count ≤ length (ended_by t s).list
    go Nothing h = omega arith
    go (One b) h = omega (arith, length-set s.list s.count (digit_value b))
    go More h = omega (arith, length-set s.list s.count 0)

-- the byte that is above '0' by a number
above : (b k : ℕ) → b - 48 ≡ k → 0 < k → b ≡ 48 + k
above b k e h = omega arith

-- a byte that is none of the digits
pub no_digit : (b : ℕ) → (b ≡ 50 → ⊥) → (b ≡ 51 → ⊥) → (b ≡ 52 → ⊥) → (b ≡ 53 → ⊥) → (b ≡ 55 → ⊥) → (b ≡ 56 → ⊥) → digit_value b ≡ 0
unfolding digit_value is_radix
no_digit b p q r s t u = simp (not 2 (lit< tt) p, not 3 (lit< tt) q, not 4 (lit< tt) r, not 5 (lit< tt) s, not 7 (lit< tt) t, not 8 (lit< tt) u)
  where
    not : (k : ℕ) → 0 < k → (b ≡ 48 + k → ⊥) → eqb (b - 48) k ≡ false
    not k h n = ne_eqb (b - 48) k (λ (e : b - 48 ≡ k). n (above b k e h))
