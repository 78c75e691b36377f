-- The 44 bytes before the samples of a file that is written, flat. Assumes nothing.
use Rattle.std.specs.Prelude.{ℕ, ◌+◌, ◌*◌, List, ◌++◌}
use Rattle.little.specs.Numbers.{bytes_of, ascii}

-- with so many the size behind the file's mark is 4,294,967,294, the last even one that four bytes hold
abbrev pub most_samples : ℕ
most_samples = 2147483629

-- the file's mark and its size less 8; a format of 16 bytes: PCM, one channel, the rate, bytes a second, bytes and bits a sample; the samples' mark and size
unfoldable pub header_of : (rate n : ℕ) → List ℕ
header_of rate n =
    ascii "RIFF" ++ bytes_of 4 (36 + 2 * n) ++ ascii "WAVE"
    ++ ascii "fmt " ++ bytes_of 4 16 ++ bytes_of 2 1 ++ bytes_of 2 1 ++ bytes_of 4 rate ++ bytes_of 4 (2 * rate) ++ bytes_of 2 2 ++ bytes_of 2 16
    ++ ascii "data" ++ bytes_of 4 (2 * n)
