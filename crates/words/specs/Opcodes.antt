-- The opcodes of offered commands (docs/RULES.md C128 to C151).
-- Assumes nothing.
use Rattle.std.specs.Prelude.{Bool, ◌&&◌, not, ℕ, leb, eqb}

-- 128 to 151, but for 146, which is no opcode
abbrev pub offered : ℕ → Bool
offered op = leb 128 op && leb op 151 && not (eqb op 146)
