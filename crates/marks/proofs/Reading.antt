-- What is known of bytes that read as a mark.
use Rattle.std.proofs.Common.{◌≡◌, ℕ, ◌<◌, ◌≤◌, List, length, get_or, None, leb, arith}
use Rattle.std.proofs.lemmas.Bool.{leb-false}
use Rattle.std.proofs.lemmas.Grind.{common_steps}
use Rattle.std.proofs.lemmas.List.Sums.{fails_before_first}
use Rattle.std.specs.List.{position_or_len}
use Rattle.marks.specs.Reading.{first_outside}

pub none_outside : (q : ℕ) (bytes : List ℕ) → first_outside q bytes ≡ None → (i : ℕ) → i < length bytes → get_or bytes i 0 < q
none_outside q bytes none i h =
    let all : length bytes ≤ position_or_len (leb q) bytes = grind (arith, common_steps) in
    leb-false q (get_or bytes i 0) (fails_before_first (leb q) bytes i 0 (omega arith))
