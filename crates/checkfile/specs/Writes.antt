-- What a writer puts into its buffer.
use Rattle.std.specs.Prelude.{◌≡◌, ℕ, ◌+◌, ◌≤◌, List, length}
use Rattle.checkfile.specs.declared.writing.Writer.{Writer}
use Rattle.checkfile.specs.Layout.{Put}

abbrev pub HasRoom : Writer → List ℕ → Type 0
HasRoom writer bytes = writer.offset + length bytes ≤ length writer.buffer.now

-- the bytes stand where the writer stood, in the same buffer, and it stands past them
pub record Writes (old new : Writer) (bytes : List ℕ) : Type 0 where
  pub same_reference : new.buffer.ghost_name ≡ old.buffer.ghost_name
  pub same_length : length new.buffer.now ≡ length old.buffer.now
  pub put : Put bytes old.offset old.buffer.now new.buffer.now new.offset
