-- A type is the same as itself.
use Rattle.std.proofs.Common.{◌≡◌, true}
use Rattle.zm_logic.specs.Tree.{Ty}
use Rattle.zm_logic.specs.Same.{same_type}
use Rattle.zm_logic.proofs.Sames.{same_type-self}

pub same_as_itself : (t : Ty) → same_type t t ≡ true
same_as_itself t = same_type-self t
