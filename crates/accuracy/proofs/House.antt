-- The house table's turns before rounding, and that they keep the rules of a circle. Assumes nothing.
use Rattle.sequences.proofs.Basics.{◌≡◌, refl, sym, ap, ap₂, ◌∙◌, subst, ℕ, zero, suc, ◌+◌, ◌-◌, ◌*◌, ◌/◌, ◌%◌, ◌^◌, ◌≤◌, ◌<◌, mod-lt, zero-lt-suc, arith}
use Rattle.sequences.proofs.Basics.{dec_le, dite, lit≤}
use Rattle.house.specs.Rule.{cosine, sine}
use Rattle.house.specs.Entries.{entry_of, plain, exchanged}
use Rattle.house.specs.declared.inner.entries.Entry.{Entry}
use Rattle.house.proofs.Entries.{entry_plain, entry_exchanged}
use Rattle.house.proofs.Rule.{house_rule}
use Rattle.turn.specs.Turns.{quarters_on}
use Rattle.accuracy.specs.Gauss.{Gauss}
use Rattle.accuracy.specs.House.{house}
use Rattle.accuracy.specs.Value.{signed, neg_z}
use Rattle.accuracy.proofs.Circle.{HouseRule, below, quarter, spin, rest, spun, rest_low, rest_high, spun_turns}
use Rattle.accuracy.proofs.Conjugate.{conj_g, spun_conj}
use Rattle.accuracy.proofs.Turns.{Turns}

rule : HouseRule (2 ^ 60) cosine sine
rule = record {
  first = house_rule.first;
  last = house_rule.last;
  norm = house_rule.norm;
  next_cos = house_rule.next_cosine;
  next_sin = house_rule.next_sine;
}

-- ---- quarters

on_quarters : (q c s : ℕ) → q < 4 → ◌≡◌ {A = Gauss} (record { re = (quarters_on signed q c s).0; im = (quarters_on signed q c s).1 }) (spin q (below c s))
unfolding spin
on_quarters zero c s l = refl
on_quarters (suc zero) c s l = refl
on_quarters (suc (suc zero)) c s l = refl
on_quarters (suc (suc (suc zero))) c s l = refl
on_quarters (suc (suc (suc (suc q)))) c s l = absurd (omega arith)

at : Entry → Gauss
at e = record { re = (quarters_on signed e.quarter e.cosine e.sine).0; im = (quarters_on signed e.quarter e.cosine e.sine).1 }

house_at : (t : ℕ) → house t ≡ at (entry_of (t % 6720))
unfolding house at
house_at t = refl

spun_at : (t : ℕ) → at (entry_of (t % 6720)) ≡ spun cosine sine t
unfolding at spun plain exchanged
spun_at t = dite (dec_le (t % 6720 % 1680) 840) low high
  where
    q : ℕ
    q = t % 6720 / 1680

    four : t % 6720 / 1680 < 4
    four = omega (arith, mod-lt t (zero-lt-suc 6719))

    same_quarter : t % 6720 / 1680 ≡ t / 1680 % 4
    same_quarter = omega arith

    same_rest : t % 6720 % 1680 ≡ t % 1680
    same_rest = omega arith

    join : spin (t % 6720 / 1680) (rest cosine sine (t % 6720 % 1680)) ≡ spin (t / 1680 % 4) (rest cosine sine (t % 1680))
    join = ap₂ (λ (q b : ℕ). spin q (rest cosine sine b)) same_quarter same_rest

    low : t % 6720 % 1680 ≤ 840 → at (entry_of (t % 6720)) ≡ spin (t / 1680 % 4) (rest cosine sine (t % 1680))
    low h = ap at (sym (entry_plain (t % 6720) h)) ∙ on_quarters (t % 6720 / 1680) (cosine (t % 6720 % 1680)) (sine (t % 6720 % 1680)) four
        ∙ ap (spin (t % 6720 / 1680)) (sym (rest_low (2 ^ 60) cosine sine rule (lit≤ tt) (t % 6720 % 1680) h)) ∙ join

    high : (t % 6720 % 1680 ≤ 840 → ⊥) → at (entry_of (t % 6720)) ≡ spin (t / 1680 % 4) (rest cosine sine (t % 1680))
    high h =
        ap at (sym (entry_exchanged (t % 6720) (omega (arith, h))))
        ∙ on_quarters (t % 6720 / 1680) (sine (1680 - t % 6720 % 1680)) (cosine (1680 - t % 6720 % 1680)) four
        ∙ ap (spin (t % 6720 / 1680)) (sym (rest_high (2 ^ 60) cosine sine rule (lit≤ tt) (t % 6720 % 1680) (omega (arith, h)))) ∙ join

house_spun : (t : ℕ) → house t ≡ spun cosine sine t
house_spun t = house_at t ∙ spun_at t

-- ---- the circle

pub turns : Turns (2 ^ 60) 6720 house
turns =
    let same : ◌≡◌ {A = ℕ → Gauss} house (spun cosine sine) = λ i t. house_spun t i in
    subst (Turns (2 ^ 60) 6720) (sym same) (spun_turns (2 ^ 60) cosine sine rule (lit≤ tt))

-- the other way round
pub house_conj : (t t' m : ℕ) → t + t' ≡ 6720 * m → house t' ≡ conj_g (house t)
house_conj t t' m e = house_spun t' ∙ spun_conj (2 ^ 60) cosine sine rule (lit≤ tt) t t' m e ∙ ap conj_g (sym (house_spun t))

pub house_mod : (t : ℕ) → house (t % 6720) ≡ house t
house_mod t =
    let e : t % 6720 % 6720 ≡ t % 6720 = omega arith in
    house_at (t % 6720) ∙ ap (λ (n : ℕ). at (entry_of n)) e ∙ sym (house_at t)

-- whole quarters
pub house_whole : (t : ℕ) → t % 1680 ≡ 0 → house t ≡ spin (t / 1680 % 4) (below (2 ^ 60) 0)
unfolding spun
house_whole t e = house_spun t ∙ ap (λ (b : ℕ). spin (t / 1680 % 4) (rest cosine sine b)) e
    ∙ ap (spin (t / 1680 % 4)) (rest_low (2 ^ 60) cosine sine rule (lit≤ tt) 0 (lit≤ tt) ∙ ap₂ below rule.first.0 rule.first.1)

-- half a circle on
turned_half : (q : ℕ) (z : Gauss) → q < 4 → spin ((q + 2) % 4) z ≡ quarter (quarter (spin q z))
unfolding spin
turned_half zero z l = refl
turned_half (suc zero) z l = refl
turned_half (suc (suc zero)) z l = refl
turned_half (suc (suc (suc zero))) z l = refl
turned_half (suc (suc (suc (suc q)))) z l = absurd (omega arith)

rests : (n : ℕ) → (n + 2) % 4 ≡ (n % 4 + 2) % 4
rests n = omega arith

house_half : (t : ℕ) → house (t + 3360) ≡ quarter (quarter (house t))
unfolding spun
house_half t =
    let b : (t + 3360) % 1680 ≡ t % 1680 = omega arith in let on : (t + 3360) / 1680 ≡ t / 1680 + 2 = omega arith in
    let q : (t + 3360) / 1680 % 4 ≡ (t / 1680 % 4 + 2) % 4 = ap (λ (n : ℕ). n % 4) on ∙ rests (t / 1680) in
    house_spun (t + 3360) ∙ ap₂ (λ (q b : ℕ). spin q (rest cosine sine b)) q b
    ∙ turned_half (t / 1680 % 4) (rest cosine sine (t % 1680)) (mod-lt (t / 1680) (zero-lt-suc 3))
    ∙ ap (λ (z : Gauss). quarter (quarter z)) (sym (house_spun t))

-- the mirror image in the other half: t and t' make half a circle, and whole ones
pub house_mirror : (t t' m : ℕ) → t + t' ≡ 3360 + 6720 * m → house t' ≡ record { re = neg_z (house t).re; im = (house t).im }
house_mirror t t' m e =
    let a : house (t' + 3360) ≡ conj_g (house t) = house_conj t (t' + 3360) (m + 1) (omega arith) in
    let b : quarter (quarter (house t')) ≡ conj_g (house t) = sym (house_half t') ∙ a in
    ap (λ (z : Gauss). quarter (quarter z)) b
