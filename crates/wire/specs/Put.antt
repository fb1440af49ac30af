-- Bytes put into a list of bytes: what a write leaves. Assumes nothing.
use Rattle.std.specs.Prelude.{ℕ, ◌+◌, List, ◌++◌, length, take, drop}

-- l, with vs from place `at` on in the stead of as many bytes
unfoldable pub put : ℕ → List ℕ → List ℕ → List ℕ
put at vs l = take at l ++ vs ++ drop (at + length vs) l
