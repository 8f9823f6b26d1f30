-- What each call answers, from the scheme, how many leaders are settled, and the call alone.
use Rattle.std.specs.Prelude.{ℕ, ◌+◌, ◌-◌, ◌*◌, ◌^◌, Bool, cond, ◌&&◌, List, Some, None, Ok, Err, Option, Result, ◌==◌, nat_le, slice_index}
use Rattle.algebra.specs.Marks.{number_of, bytes_of, minus}
use Rattle.checkfile.specs.declared.code.Code.{Code}
use Rattle.leaders.specs.Leaders.{leaders, coset_count, leader_of, leader_number}
use Rattle.leaders.specs.Schemes.{Scheme}
use Rattle.marks.specs.Reading.{reading}
use Rattle.marks.specs.declared.mark.Mark.{Mark}
use Rattle.refusals.specs.declared.Refusal.{Refusal}
use Rattle.refusals.specs.declared.Refusal.TheVariants.{OtherCode, Amount, Scratch, Buffer, NotSettled, OutOfRange}

-- a rule of n places and an alphabet of q symbols must be those of the code
abbrev pub open_refusal : Code → ℕ → ℕ → Option Refusal
open_refusal code n q = cond (n == code.sizes.places.n && q == code.sizes.q) None (Some OtherCode)

-- the least scratch that a grow takes, for n places of q symbols and r checks
abbrev pub scratch_for : ℕ → ℕ → ℕ → ℕ
scratch_for q n r = n * (q - 1) * q ^ r + 1

-- the answer on a table that was opened; where the opening was refused, its refusal again
abbrev pub unless_refused : Option Refusal → Result (Unit {0}) Refusal → Result (Unit {0}) Refusal
unless_refused None answer = answer
unless_refused (Some refusal) answer = Err refusal

-- the amount of a grow with that answer: 0 where it was refused
abbrev pub growth : Result (Unit {0}) Refusal → ℕ → ℕ
growth (Ok _) amount = amount
growth (Err _) amount = 0

module _ (T : Scheme) where
  abbrev pub scratch_size : ℕ
  scratch_size = scratch_for T.symbols.q T.checks.n T.checks.r

  abbrev pub grow_answer : ℕ → ℕ → Result (Unit {0}) Refusal
  grow_answer amount room = cond (nat_le amount 256) (cond (nat_le scratch_size room) (Ok tt) (Err Scratch)) (Err Amount)

  -- the amount of an accepted grow, and 0 of a refused one
  abbrev pub accepted : ℕ → ℕ → ℕ
  accepted amount room = cond (nat_le amount 256 && nat_le scratch_size room) amount 0

  module _ (settled : ℕ) where
    -- how many are settled, and whether all are
    abbrev pub tally_answer : ℕ × Bool
    tally_answer = (settled, (settled == coset_count T))

    abbrev pub leader_answer : ℕ → Result ℕ Refusal
    leader_answer j = cond (nat_le 1 j && nat_le j settled) (Ok (slice_index (leaders T) (j - 1))) (Err OutOfRange)

    -- the number of the leader of a mark's coset, where it is settled
    abbrev pub settled_number : ℕ → Result ℕ Refusal
    settled_number u = cond (nat_le (leader_number T u) settled) (Ok (leader_number T u)) (Err NotSettled)

    -- of a mark that was read, and two buffers with these lengths
    abbrev pub found_of : Result Mark Refusal → ℕ → ℕ → Result ℕ Refusal
    found_of (Ok mark) first second = cond (first == T.checks.n && second == T.checks.n) (settled_number mark.number) (Err Buffer)
    found_of (Err refusal) first second = Err refusal

    abbrev pub find_answer : List ℕ → ℕ → ℕ → Result ℕ Refusal
    find_answer bytes first second = found_of (reading T.symbols T.checks.n bytes) first second

  -- what a buffer holds afterwards: the symbols of a mark, or what it held where the call was refused
  abbrev pub written : Result ℕ Refusal → ℕ → List ℕ → List ℕ
  written (Ok number) u before = bytes_of T.checks.n u
  written (Err refusal) u before = before

  -- the correction of the mark that the bytes spell, and the corrected mark
  abbrev pub correction_of : List ℕ → ℕ
  correction_of bytes = leader_of T (number_of bytes)

  abbrev pub corrected_of : List ℕ → ℕ
  corrected_of bytes = minus T.symbols T.checks.n (number_of bytes) (correction_of bytes)
