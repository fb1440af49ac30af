-- Document 01, "NMT, time, SYNC": the clock of 1 ms ticks and what a timer does with it. Assumes nothing.
use Rattle.std.specs.Prelude.{ℕ, ◌+◌, ◌-◌, ◌%◌, Bool, not, ◌&&◌, eqb, leb}

-- the clock after one more tick: it wraps at 65536
abbrev pub next : ℕ → ℕ
next clock = (clock + 1) % 65536

-- the time since a timer's start, by the wrapped difference
abbrev pub elapsed : ℕ → ℕ → ℕ
elapsed clock start = (clock + 65536 - start) % 65536

-- a timer fires once its period has passed
abbrev pub fires : ℕ → ℕ → ℕ → Bool
fires clock start period = leb period (elapsed clock start)

-- the same for a period whose 0 means off
abbrev pub fires_unless_off : ℕ → ℕ → ℕ → Bool
fires_unless_off clock start period = not (eqb period 0) && fires clock start period
