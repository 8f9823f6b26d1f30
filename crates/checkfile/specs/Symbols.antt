-- The check symbols of a code, as its array holds them.
use Rattle.std.specs.Prelude.{ℕ, ◌+◌, ◌*◌, cond, ◌&&◌, List, nat_lt, slice_index}

-- check symbol j of place i, both from 0, and 0 where there is none
abbrev pub check_at : ℕ → ℕ → List ℕ → ℕ → ℕ → ℕ
check_at n r checks i j = cond (nat_lt i n && nat_lt j r) (slice_index checks (i * r + j)) 0
