-- The version, as one number: two decimal digits for the patch, two for the minor number, the rest for the major one. CHANGELOG.md says what each brought.
use Rattle.std.specs.Prelude.{ℕ, ◌+◌, ◌*◌}

abbrev pub numbered : ℕ → ℕ → ℕ → ℕ
numbered major minor patch = 10000 * major + 100 * minor + patch

abbrev pub version : ℕ
version = numbered 0 9 0
