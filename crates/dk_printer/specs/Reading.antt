-- What a text says.
use Rattle.std.specs.Prelude.{◌≡◌, ℕ, List, []}
use Rattle.lp_terms.specs.Signature.{Entry}
use Rattle.dk_text.specs.Names.{Reads}

-- The text is read as these entries, and as no others.
pub record HasOneReading (bytes : List ℕ) (es : List Entry) : Type 0 where
  pub reads : Reads [] bytes es
  pub alone : (ds : List Entry) → Reads [] bytes ds → ds ≡ es
