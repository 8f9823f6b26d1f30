-- Where the first line ends, and what taking it leaves.
use Rattle.std.specs.Prelude.{◌≡◌, ℕ, suc, ◌+◌, ◌-◌, ◌≤◌, List, [], ◌∷◌, length, false, take, drop, Some, None, ◌==◌}
use Rattle.std.specs.List.{position_or_len}
use Rattle.std.proofs.Common.{refl, ap, arith}
use Rattle.std.proofs.lemmas.List.{take_all, take_rest, drop_all}
use Rattle.std.proofs.lemmas.Grind.{common_steps}
use Rattle.lines.specs.Input.{lines_of, first_line, after_line, Takes}

take_front : (n byte : ℕ) (bytes : List ℕ) → take (1 + n) (byte ∷ bytes) ≡ byte ∷ take n bytes
take_front n byte bytes = let next : 1 + n ≡ suc n = omega arith in rw next refl

pub to_newline : (bytes : List ℕ) → first_line bytes ≡ take (position_or_len (λ byte. byte == 10) bytes) bytes
to_newline [] = refl
to_newline (byte ∷ bytes) = grind (arith, common_steps, to_newline bytes, take_front)

pub past_newline : (bytes : List ℕ) → after_line bytes ≡ drop (position_or_len (λ byte. byte == 10) bytes + 1) bytes
past_newline [] = refl
past_newline (byte ∷ bytes) = grind (arith, common_steps, past_newline bytes)

pub ruleset newline_laws = (to_newline, past_newline, take_all, take_rest, drop_all)

pub left_shorter : (bytes : List ℕ) → length (after_line bytes) ≤ length bytes - 1
left_shorter [] = omega arith
left_shorter (byte ∷ bytes) = grind (arith, common_steps, left_shorter bytes)

-- the first line stands before the lines of what is left
first_and_others : (byte : ℕ) (bytes : List ℕ) → lines_of (byte ∷ bytes) ≡ first_line (byte ∷ bytes) ∷ lines_of (after_line (byte ∷ bytes))
first_and_others byte [] = grind (arith, common_steps)
first_and_others byte (next ∷ bytes) = grind (arith, common_steps, first_and_others next bytes)

pub takes_none : (bytes : List ℕ) → length bytes ≡ 0 → Takes bytes None bytes
takes_none [] h = record { line = refl; left = refl; lines = refl }
takes_none (byte ∷ bytes) h = absurd (omega arith)

pub takes_line : (bytes line left : List ℕ) → (length bytes == 0) ≡ false → line ≡ first_line bytes → left ≡ after_line bytes → Takes bytes (Some line) left
takes_line [] line left h e f = absurd (cc)
takes_line (byte ∷ bytes) line left h e f = record { line = ap Some e; left = f; lines = let split = first_and_others byte bytes in cc }

pub ruleset taking_laws = (takes_none, left_shorter)
