-- What is known of an entry that is read: its name and the pieces of its terms.
use Rattle.std.specs.Prelude.{ℕ, Bool, cond, nat_lt, List, [], ◌∷◌, ◌++◌, Some}
use Rattle.lp_terms.specs.Term.{Lp}
use Rattle.lp_terms.specs.Signature.{Entry}
use Rattle.lp_terms.specs.Names.{is_among, is_variable}
use Rattle.lp_terms.specs.View.{terms_of}
use Rattle.dk_text.specs.Grammar as grammar
use Rattle.dk_text.specs.Grammar.{Binding, binding, RawEntry}
use Rattle.dk_text.specs.Names.{Scope, Resolved, known, unknown, and_then}
use Rattle.dk_text.specs.Refusals.{Answer, refused, too_deep, duplicate, variable_name, judged_names}
use Rattle.dk_reader.specs.Pieces.{Piece, deep, shallow, piece_of, piece_seen}
use Rattle.dk_reader.specs.declared.entry.Context as code
use Rattle.dk_reader.specs.declared.entry.Context.TheVariants as contexts
use Rattle.dk_reader.specs.declared.entry.Parts as code_parts
use Rattle.dk_reader.specs.declared.entry.Parts.TheVariants as layer

-- Nothing is known of a context with a type that nests too deep.
pub data Context : Type 0 where
  deep_context : Context
  shallow_context : (types : Resolved (List Lp)) → Context

abbrev pub context_at : ℕ → Resolved (List Lp) → Context
context_at depth types = cond (nat_lt 8000 depth) deep_context (shallow_context types)

-- the context with one more type
abbrev pub extended : Context → Piece → Context
extended c deep = deep_context
extended deep_context (shallow d v) = deep_context
extended (shallow_context ts) (shallow d v) = shallow_context (and_then ts (λ types. and_then v (λ type. known (types ++ type ∷ []))))

-- the names round a place behind these bindings
abbrev pub scope_behind : Scope → List Binding → Scope
scope_behind scope [] = scope
scope_behind scope (binding x a ∷ bs) = scope_behind (Some x ∷ scope) bs

-- what is known of these bindings, behind a context that is known
abbrev pub context_behind : List (List ℕ) → Scope → Context → List Binding → Context
context_behind declared scope c [] = c
context_behind declared scope c (binding x a ∷ bs) = context_behind declared (Some x ∷ scope) (extended c (piece_of declared scope a)) bs

abbrev pub context_of : List (List ℕ) → List Binding → Context
context_of declared bs = context_behind declared [] (shallow_context (known [])) bs

pub data Parts : Type 0 where
  declaration : (name : List ℕ) (definable : Bool) (type : Piece) → Parts
  definition : (name : List ℕ) (type body : Piece) → Parts
  rewriting : (context : Context) (left right : Piece) → Parts

-- the parts of an entry as it is written
abbrev pub parts_of : List (List ℕ) → RawEntry → Parts
parts_of declared (grammar.RawEntry.declaration x f a) = declaration x f (piece_of declared [] a)
parts_of declared (grammar.RawEntry.definition x a b) = definition x (piece_of declared [] a) (piece_of declared [] b)
parts_of declared (grammar.RawEntry.rewriting bs a b) =
    rewriting (context_of declared bs) (piece_of declared (scope_behind [] bs) a) (piece_of declared (scope_behind [] bs) b)

-- the rows on a declared name, and then those on the names that it uses
abbrev pub judged_name : List (List ℕ) → List ℕ → Resolved Entry → Answer
judged_name names x r = cond (is_among x names) (refused duplicate) (cond (is_variable x) (refused variable_name) (judged_names r))

abbrev pub judged_declaration : List (List ℕ) → List ℕ → Bool → Piece → Answer
judged_declaration names x f deep = refused too_deep
judged_declaration names x f (shallow d v) = judged_name names x (and_then v (λ c. known (Entry.declare x f c)))

abbrev pub defined_as : List ℕ → Resolved Lp → Resolved Lp → Resolved Entry
defined_as x v w = and_then v (λ c. and_then w (λ d. known (Entry.define x c d)))

abbrev pub judged_definition : List (List ℕ) → List ℕ → Piece → Piece → Answer
judged_definition names x deep q = refused too_deep
judged_definition names x (shallow d v) deep = refused too_deep
judged_definition names x (shallow d v) (shallow e w) = judged_name names x (defined_as x v w)

abbrev pub rule_between : Resolved (List Lp) → Resolved Lp → Resolved Lp → Resolved Entry
rule_between ts v w = and_then ts (λ types. and_then v (λ c. and_then w (λ d. known (Entry.rule types c d))))

abbrev pub judged_sides : Context → Resolved Lp → Resolved Lp → Answer
judged_sides deep_context v w = refused too_deep
judged_sides (shallow_context ts) v w = judged_names (rule_between ts v w)

abbrev pub judged_rule : Context → Piece → Piece → Answer
judged_rule c deep q = refused too_deep
judged_rule c (shallow d v) deep = refused too_deep
judged_rule c (shallow d v) (shallow e w) = judged_sides c v w

-- the rows behind Syntax, in order
abbrev pub judged_parts : List (List ℕ) → Parts → Answer
judged_parts names (declaration x f p) = judged_declaration names x f p
judged_parts names (definition x p q) = judged_definition names x p q
judged_parts names (rewriting c p q) = judged_rule c p q

-- the plain parts of the code's values
abbrev pub context_seen : code.Context → Context
context_seen contexts.Deep = deep_context
context_seen (contexts.Known types) = shallow_context (known (terms_of types))
context_seen (contexts.Unknown left) = shallow_context (unknown left)

abbrev pub parts_seen : code_parts.Parts → Parts
parts_seen (layer.Declaration name definable p) = declaration name.now definable (piece_seen p)
parts_seen (layer.Definition name p q) = definition name.now (piece_seen p) (piece_seen q)
parts_seen (layer.Rule c p q) = rewriting (context_seen c) (piece_seen p) (piece_seen q)
