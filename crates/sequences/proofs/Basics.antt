-- What proofs take from the libraries below: equality, numbers, truth values, lists, and the tests and laws of each. Assumes nothing.
pub use mathlib.Core.Path.{◌∙◌, ◌≡◌, ap, ap₂, refl, subst, subst₂, sym}
pub use Prim.Native.Nat.Ordering.{eq as ordering_eq}
pub use Prim.Native.Nat.Ordering.{gt as ordering_gt}
pub use Prim.Native.Nat.Ordering.{lt as ordering_lt}
pub use Prim.Native.Nat.{Ordering, ◌%◌, ◌*◌, ◌+◌, ◌-◌, ◌/◌, ◌<◌, ◌^◌, ◌∣◌, ◌≤◌, compare, min, suc, suc-le-suc, zero}
pub use Prim.Native.Nat.{zero-le, ℕ}
pub use native.Mathlib.Nat.{add_assoc, add_comm, add-le-add, add-mod, add-mul, add-mul-mod_self_right, add-sub_of_le, add-suc}
pub use native.Mathlib.Nat.{add-zero, div-add-mod', div-div-eq-div-mul, div-eq_of_eq-mul_left, div-eq_of_lt, div-eq_of_lt-le, div-le_self, div-lt_iff_lt-mul}
pub use native.Mathlib.Nat.{div-mul-le_self, div-one, div_self, dvd-mul_left, dvd-mul_right, dvd_of_mod-eq-zero, dvd_trans, eq_of_mul-eq-mul_right}
pub use native.Mathlib.Nat.{eq-or-lt_of_le, le-add_left, le-add_right, le_antisymm, le_dest, le-div_iff_mul-le, le-mul_of_pos_right, le_of_dvd, le_of_eq}
pub use native.Mathlib.Nat.{le_of_lt, le_of_mul-le-mul_left, le_of_mul-le-mul_right, le_of_suc-le-suc, le_refl, le_step, le_trans, lt_irrefl, lt_of_le_of_lt}
pub use native.Mathlib.Nat.{lt_of_lt_of_le, lt_of_not-le, mod-eq_of_lt, mod-eq-zero_of_dvd, mod-lt, mod-mod, mod-mod_of_dvd, mod-one}
pub use native.Mathlib.Nat.{mul-add-mod_self_right, mul_assoc, mul_comm, mul-div_cancel, mul-div-le, mul-div_left, mul-le-mul, mul-le-mul_left}
pub use native.Mathlib.Nat.{mul-le-mul_right, mul_left_comm, mul-lt-mul_of_pos_right, mul-mod_left, mul-one, mul-pos, mul_right_comm, mul-sub, mul-zero}
pub use native.Mathlib.Nat.{not-le_of_lt, not-suc-le-zero, one-mul, pow-suc, pow-succ', pow-zero, sub-add_cancel, sub-le, suc-add, suc-mul, zero-add}
pub use native.Mathlib.Nat.{zero-lt-suc, zero-mod, zero-mul}
pub use native.Mathlib.Numerals.{add-one}
pub use native.Mathlib.Omega.{arith}
pub use native.Mathlib.Decide.{dec_le, dec_lt, ℕ_discrete}
pub use mathlib.Core.Bool.{Bool, beq as bool_beq, ◌&&◌, ◌||◌, cond, false, false≢true, not, true, true≢false}
pub use mathlib.Core.Logic.{◌≢◌, ◌⊎◌, dite, inl, inr, ⊎_elim}
pub use mathlib.Core.List.{List, [], ◌++◌, ◌∷◌, append_assoc, append-nil, map, map-append}
pub use lib.Dec.{T, eqb, eqb→eq, compare_is_eq, is_le, leb, leb→le, le→leb, lit<, lit≤, ltb, ltb→lt, nleb→lt, nltb→le}
pub use lib.ListN.{get_or-append as get_or-append, get_or-eq_default as get_or-eq_default, drop, drop_of_length-le, get_or, get_or-replicate, length}
pub use lib.ListN.{length-append, length-drop, length-replicate}
pub use lib.ListN.{length-set, length-take, replicate, set, take, take-append-drop}
pub use lib.Seq.{drop-append-le, drop_at, drop-cons, drop-drop, ext_get_or, get_or-append-add, get_or-drop, get_or-set_other}
pub use lib.Seq.{get_or-set_same, get_or-take}
pub use lib.Seq.{length_front, length-take-le, paste, paste-suc, paste-zero, set-append_left, set_at, set_split, split_at, take_all}
pub use lib.Seq.{take-append-le, take-append_seam, take_at, take-length, take-suc, take-suc-set, take-take}
pub use lib.Pow.{pow-add, pow-lt, pow_mono, pow_pos}
pub use lib.Arith.{digits_div, digits_lt, digits_mod, lt-one}
pub use borrow.Author.Tests.{eq-eqb, eqb-false, eqb-true, le-leb, le-ltb, leb-false, leb-true, lt-leb, lt-ltb, ltb-false, ltb-true, ne_eqb, not-false, not-true}
pub use borrow.Author.Rules.{rules}
