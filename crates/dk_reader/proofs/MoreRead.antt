-- One more binding of a context, as the code answers it.
use Rattle.std.proofs.Common.{◌≡◌, ℕ, Bool, true, false, List, ◌∷◌, map, Option, Some, None, sym, ◌∙◌, ap, subst}
use Rattle.std.specs.Prelude.{MatchOption, IfSome}
use Rattle.dk_text.specs.Tokens.{Token}
use Rattle.dk_text.specs.Names.{Scope}
use Rattle.dk_reader.specs.declared.entry.Context as code
use Rattle.dk_reader.specs.declared.entry.ContextRead.{ContextRead}
use Rattle.dk_reader.specs.Seen.{seen}
use Rattle.dk_reader.specs.Pieces.{Piece}
use Rattle.dk_reader.specs.Parts.{Context, context_seen, extended}
use Rattle.dk_reader.specs.Before.{Before, GoesOn, end_of}
use Rattle.dk_reader.specs.Entries.{SpellsBinding, SpellsNoContext}
use Rattle.dk_reader.proofs.Entering.{no_end, goes_on}

pub more_read : (names : List (List ℕ)) (tokens rest behind : List Token) (before : Context) (scope inner : Scope) (piece : Piece) (context : code.Context) (r : Option ContextRead) →
    Before names tokens rest before scope → SpellsBinding names scope inner rest behind piece → context_seen context ≡ extended before piece →
    MatchOption r ((closed : Bool) (more : List Token) → behind ≡ end_of closed ∷ more → ⊥) (λ n. behind ≡ end_of n.closed ∷ map seen n.rest.now) →
    IfSome r (λ n. n.context ≡ context) →
    MatchOption r (SpellsNoContext tokens) (λ n. GoesOn n.closed names tokens (map seen n.rest.now) (context_seen n.context) inner)
more_read names tokens rest behind before scope inner piece context None b s e h same =
    no_end names tokens rest behind before scope inner piece b s (λ more k. h true more k) (λ more k. h false more k)
more_read names tokens rest behind before scope inner piece context (Some n) b s e h same =
    subst (λ (z : Context). GoesOn n.closed names tokens (map seen n.rest.now) z inner) (sym (ap context_seen same ∙ e))
    (goes_on names tokens rest behind (map seen n.rest.now) before scope inner piece n.closed b s h)
