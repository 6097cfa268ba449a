-- A test decides a statement.
use Rattle.std.specs.Prelude.{◌≡◌, Bool, true, false}

pub record Decides (b : Bool) (P : Type 0) : Type 0 where
  pub yes : b ≡ true → P
  pub no : b ≡ false → P → ⊥
