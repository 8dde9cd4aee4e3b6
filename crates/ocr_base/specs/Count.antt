-- Counts, which stand still at their last value, 2 ^ 64 - 1.
use Rattle.std.specs.Prelude.{◌≡◌, ℕ, ◌+◌, ◌-◌, ◌<◌, ◌≤◌, ◌^◌, min}

-- a count with n more
abbrev pub count_on : ℕ → ℕ → ℕ
count_on before n = min (before + n) (2 ^ 64 - 1)

-- a count rose: it is greater than before, or stands at its last value
abbrev pub Rose : ℕ → ℕ → Type 0
Rose before now = count_on before 1 ≤ now

-- a count went up by n, where it has room for so many
abbrev pub RoseBy : ℕ → ℕ → ℕ → Type 0
RoseBy before now n = before + n < 2 ^ 64 → now ≡ before + n
