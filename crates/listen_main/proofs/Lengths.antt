-- The lengths of blocks that are served. Assumes nothing.
use Rattle.sequences.proofs.Basics.{◌≡◌, ℕ, suc, zero, ◌%◌, ◌<◌, ◌≤◌, arith, Bool, true, false, false≢true, not, ◌&&◌, eqb, eqb-true}
use Rattle.sequences.proofs.Basics.{le_of_dvd, dvd_of_mod-eq-zero}
use Rattle.turn.specs.Turns.{housed}
use Rattle.listening.specs.Lengths.{served}

-- the last of three tests that hold
last_holds : (a b c : Bool) → (a && b && c) ≡ true → c ≡ true
last_holds true true c h = h
last_holds true false c h = absurd (false≢true h)
last_holds false b c h = absurd (false≢true h)

-- a served length has a block, has room, and has its turns
pub served_block : (n : ℕ) → served n ≡ true → (0 < n) × (n ≤ 6720) × (housed n ≡ true)
unfolding served housed
served_block zero h = absurd (false≢true h)
served_block (suc k) h =
    let e = last_holds (not (eqb (suc k) 0)) (eqb (suc k % 2) 0) (eqb (6720 % suc k) 0) h in
    (omega arith, le_of_dvd (omega arith) (dvd_of_mod-eq-zero (suc k) (eqb-true (6720 % suc k) 0 e)), e)
