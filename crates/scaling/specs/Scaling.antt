-- Scaling of two base lists so that the in-product reaches a target. Assumes nothing.
use Rattle.std.specs.Prelude.{ℕ, zero, suc, ◌+◌, ◌*◌, ◌/◌, ◌%◌, ◌^◌, ◌≡◌, cond, List, [], ◌∷◌, ◌++◌, eqb, leb, ltb, length, replicate, Result}
use Rattle.refusal.specs.Refusal.{Row, ◌⇒◌, verdict, granted}
use Rattle.refusal.specs.declared.Refusal.{Refusal}
use Rattle.refusal.specs.declared.Refusal.TheVariants.{NoRadix, TooLarge}
use Rattle.refusal.specs.Refusal.{Verdict}
use Rattle.radices.specs.Lists.{product, first_bad, first_over, largest, listed}
use Rattle.scaling.specs.declared.Scaled.{Scaled}

-- the smallest g with 2 ^ g times the base at least the target, looked for from g on, at most k of them
unfoldable pub gain_from : (k g target base : ℕ) → ℕ
gain_from zero g target base = g
gain_from (suc k) g target base = cond (leb target (2 ^ g * base)) g (gain_from k (suc g) target base)

unfoldable pub gain : (target base : ℕ) → ℕ
gain target base = gain_from target 0 target base

-- a 2 for one over, a 4 for two
abbrev pub over : ℕ → List ℕ
over k = cond (eqb k 0) [] (cond (eqb k 1) (2 ∷ []) (4 ∷ []))

-- the radices of 2 ^ g: an 8 for each three of g, then what is over
unfoldable pub gained : ℕ → List ℕ
gained g = replicate (g / 3) 8 ++ over (g % 3)

-- refusals 2 and 3 over a list, in this order, with indices that run on from `from`
abbrev pub list_rows : (from : ℕ) → List ℕ → List Row
list_rows from xs =
    ltb (first_bad xs) (length xs) ⇒ NoRadix (from + first_bad xs)
    ∷ ltb (first_over 1 xs) (length xs) ⇒ TooLarge (from + first_over 1 xs)
    ∷ []

-- those over the in-list, those over the out-list, and last 3 for a scaled out-product too large, at the joined length
unfoldable pub scale_verdict : (target : ℕ) → List ℕ → List ℕ → Verdict
scale_verdict target ins outs =
    verdict
    (list_rows 0 ins
    ++ list_rows (length ins) outs
    ++ (ltb largest (2 ^ gain target (product ins) * product outs) ⇒ TooLarge (length ins + length outs) ∷ []))

unfoldable pub accepted_scaling : (g : ℕ) → List ℕ → List ℕ → Scaled
accepted_scaling g ins outs =
    record {
      p = 2 ^ g;
      in_product = 2 ^ g * product ins;
      out_product = 2 ^ g * product outs;
      in_list = listed (ins ++ gained g);
      out_list = listed (outs ++ gained g);
    }

-- what scaling to a target answers
unfoldable pub scaled : (target : ℕ) → List ℕ → List ℕ → Result Scaled Refusal
scaled target ins outs = granted (scale_verdict target ins outs) (accepted_scaling (gain target (product ins)) ins outs)

-- what `scale` promises of its answer
pub record Scales (ins outs : List ℕ) (r : Result Scaled Refusal) : Type 0 where
  pub answer : r ≡ scaled 512 ins outs
