-- The inverse's steps as they are taken, with the conjugation that follows them. Assumes nothing.
use Rattle.floats.specs.Complexes.{conjugate}
use Rattle.mixing.specs.Steps.{Steps}

-- the same steps, every cell but h conjugated
abbrev pub conjugating : Steps → Steps
conjugating s =
    record {
      first = λ x y. conjugate (s.first x y);
      last = s.last;
      near = λ a b t. conjugate (s.near a b t);
      far = λ a b t. conjugate (s.far a b t);
      centre = λ c. conjugate (s.centre c);
    }
