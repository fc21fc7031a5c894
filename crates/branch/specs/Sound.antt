-- What the theorems on tableaux ask of symbols, rules and given formulas.
use Rattle.std.specs.Prelude.{◌≡◌, List}
use Rattle.std.specs.List.{Contains}
use Rattle.zm_logic.specs.Tree.{Form}
use Rattle.zm_logic.specs.Parameter.{EachIn, HasNoParameter}
use Rattle.zm_logic.specs.Typing.{WellTyped, IsSignature}
use Rattle.zm_logic.specs.Rewriting.{Step}
use Rattle.branch.specs.Setting.{Setting}
use Rattle.branch.specs.Normal.{Made, Normalizes}
use Rattle.branch.specs.Occurs.{OccursIn}

-- The signature is well formed. Each step keeps a well typed formula well typed and brings in no parameter, and a well
-- typed formula has one normal form, or one reason why it has none.
pub record IsSound (s : Setting) : Type 0 where
  pub signature : IsSignature s.symbols
  pub typed : (f g : Form) → Step s.rules f g → WellTyped s.symbols f → WellTyped s.symbols g
  pub parameters : (f g : Form) → Step s.rules f g → WellTyped s.symbols f → EachIn (λ p. OccursIn p f) g
  pub determined : (f : Form) (x y : Made Form) → WellTyped s.symbols f → Normalizes s f x → Normalizes s f y → x ≡ y

-- the formulas that a tableau begins with: well typed, and without parameters
pub record AreGiven (s : Setting) (given : List Form) : Type 0 where
  pub typed : (f : Form) → Contains given f → WellTyped s.symbols f
  pub parameters : (f : Form) → Contains given f → HasNoParameter f
