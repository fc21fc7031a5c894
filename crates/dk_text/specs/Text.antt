-- The printed text of terms and files.
use Rattle.std.specs.Prelude.{ℕ, suc, ◌-◌, Bool, true, false, cond, List, [], ◌∷◌, ◌++◌, length, codes}
use Rattle.std.specs.Fmt.{decimal}
use Rattle.lp_terms.specs.Term.{Lp}
use Rattle.lp_terms.specs.Signature.{Entry}
use Rattle.lp_terms.specs.File.{occurs}

-- a variable's name is x and a number
abbrev pub variable : ℕ → List ℕ
variable n = 120 ∷ decimal n

-- a binder's name and the colon behind it
abbrev pub binder_text : ℕ → List ℕ
binder_text n = variable n ++ codes " : "

-- a product or an abstraction
abbrev pub is_binder : Lp → Bool
is_binder (Lp.prod a b) = true
is_binder (Lp.abs a b) = true
is_binder t = false

-- neither a name nor Type
abbrev pub is_compound : Lp → Bool
is_compound (Lp.app f a) = true
is_compound (Lp.prod a b) = true
is_compound (Lp.abs a b) = true
is_compound t = false

-- a part of a term, in brackets or not
abbrev pub part_text : Bool → List ℕ → List ℕ
part_text true text = codes "(" ++ (text ++ codes ")")
part_text false text = text

-- The term where d binders stand round it. A binder doesn't stand round its own domain, and a product is named where its variable occurs.
abbrev pub term_text : ℕ → Lp → List ℕ
term_text d Lp.sort = codes "Type"
term_text d (Lp.const name) = name
term_text d (Lp.free n) = variable n
term_text d (Lp.index i) = variable (d - suc i)
term_text d (Lp.app f a) = part_text (is_binder f) (term_text d f) ++ (codes " " ++ part_text (is_compound a) (term_text d a))
term_text d (Lp.abs a b) = binder_text d ++ (part_text (is_binder a) (term_text d a) ++ (codes " => " ++ term_text (suc d) b))
term_text d (Lp.prod a b) = cond (occurs 0 b) (binder_text d) [] ++ (part_text (is_binder a) (term_text d a) ++ (codes " -> " ++ term_text (suc d) b))

-- the variables of a context from number d on, a comma between two
abbrev pub bindings_text : ℕ → List Lp → List ℕ
bindings_text d [] = []
bindings_text d (a ∷ []) = binder_text d ++ term_text d a
bindings_text d (a ∷ c ∷ rest) = binder_text d ++ (term_text d a ++ (codes ", " ++ bindings_text (suc d) (c ∷ rest)))

abbrev pub entry_text : Entry → List ℕ
entry_text (Entry.declare name definable a) = cond definable (codes "def ") [] ++ (name ++ (codes " : " ++ (term_text 0 a ++ codes ".")))
entry_text (Entry.define name a b) = codes "def " ++ (name ++ (codes " : " ++ (term_text 0 a ++ (codes " := " ++ (term_text 0 b ++ codes ".")))))
entry_text (Entry.rule context a b) =
    codes "[" ++ (bindings_text 0 context ++ (codes "] " ++ (term_text (length context) a ++ (codes " --> " ++ (term_text (length context) b ++ codes ".")))))

-- one entry a line
abbrev pub file_text : List Entry → List ℕ
file_text [] = []
file_text (e ∷ es) = entry_text e ++ (codes "\n" ++ file_text es)
