-- Declarations and rules, one further.
use Rattle.std.proofs.Common.{ℕ, zero, suc, ◌≡◌, ◌≢◌, ◌+◌, ◌<◌, ◌≤◌, ◌^◌, Bool, true, false, ◌||◌, Option, Some, None, List, [], ◌∷◌, ◌++◌, length, get_or, take, drop, map, refl, ap, sym, ◌∙◌, append_assoc, arith, subst, All, Result, Ok, Err, IfOk}
use Rattle.std.specs.Prelude.{slice_get}
use Rattle.std.proofs.lemmas.List.{map_more, take_all}
use Rattle.std.proofs.lemmas.List.Elements.{All-push}
use Rattle.std.proofs.Math.Seq.{drop-cons, drop-length}
use Rattle.lp_terms.specs.Term.{Lp}
use Rattle.lp_terms.specs.Signature.{Entry}
use Rattle.lp_terms.specs.File.{IsFile}
use Rattle.lp_terms.specs.View.{term_of, entries_of}
use Rattle.lp_terms.specs.declared.term.Lp as code
use Rattle.lp_terms.specs.declared.file.Entry as code_file
use Rattle.zm_logic.specs.declared.tree.Ty.{Ty}
use Rattle.zm_logic.specs.declared.problem.Symbol.{Symbol}
use Rattle.zm_logic.specs.declared.problem.Premise.{Premise}
use Rattle.zm_logic.specs.declared.problem.Problem.{Problem}
use Rattle.zm_logic.specs.declared.rule.Rule.{Rule}
use Rattle.zm_logic.specs.Tree as tree
use Rattle.zm_logic.specs.View.{type_tree, types_tree, symbol_tree, side_tree, rule_tree, form_tree, premise_tree, problem_tree}
use Rattle.zm_logic.specs.Problem.{IsTypedProblem}
use Rattle.rule_select.specs.Selection.{Selection, IsSelection, kept_of}
use Rattle.lp_signature.specs.Prelude.{types, term, prf}
use Rattle.lp_signature.specs.Names.{symbol_name, premise_name}
use Rattle.lp_signature.specs.Translation.{Scope, type_of, form_of, result_type, arrows, over_types, symbol_type}
use Rattle.lp_signature.specs.Problem.{is_head, heads, symbol_entries, rule_entry, premise_entries, signature}
use Rattle.lp_signature.specs.View.{symbols_tree}
use Rattle.lp_signature.specs.Declarable.{IsDeclarable, IsWritable}
use Rattle.lp_signature.proofs.SignatureIsFile.{signatures_are_files}

drop_next : {X : Type 0} (xs : List X) (i : ℕ) (d : X) → i < length xs → drop i xs ≡ get_or xs i d ∷ drop (i + 1) xs
drop_next xs i d h = let e : suc i ≡ i + 1 = omega arith in drop-cons xs i d h ∙ ap (λ k. get_or xs i d ∷ drop k xs) e

-- the products over the arguments from one on, and over one more
pub arrows_end : (symbols : List tree.Symbol) (ts : List Ty) (r : tree.Sense) (n : ℕ) → n ≡ length ts
    → arrows symbols n (types_tree (drop n ts)) r ≡ result_type symbols n r
arrows_end symbols ts r n e = ap (λ l. arrows symbols n (types_tree l) r) (ap (λ k. drop k ts) e ∙ drop-length ts)

pub arrows_more : (symbols : List tree.Symbol) (ts : List Ty) (r : tree.Sense) (i : ℕ) (d : Ty) (t : Lp) → i < length ts
    → t ≡ arrows symbols (i + 1) (types_tree (drop (i + 1) ts)) r
    → Lp.prod (term (type_of symbols Scope.none i (type_tree (get_or ts i d)))) t ≡ arrows symbols i (types_tree (drop i ts)) r
arrows_more symbols ts r i d t h e =
    let x : i + 1 ≡ suc i = omega arith in
    ap (Lp.prod (term (type_of symbols Scope.none i (type_tree (get_or ts i d))))) (e ∙ ap (λ k. arrows symbols k (types_tree (drop (i + 1) ts)) r) x)
    ∙ ap (λ l. arrows symbols i (types_tree l) r) (sym (drop_next ts i d h))

pub over_types_more : (symbols : List tree.Symbol) (k : ℕ) (t u : Lp) → u ≡ over_types symbols k t → Lp.prod types u ≡ over_types symbols (k + 1) t
over_types_more symbols k t u e = let x : suc k ≡ k + 1 = omega arith in ap (Lp.prod types) e ∙ ap (λ n. over_types symbols n t) x

-- whether a rule from one on has the head
true_or : (a b : Bool) → a ≡ true → (a || b) ≡ true
true_or true b e = refl
true_or false b e = grind arith

false_or : (a b : Bool) → a ≡ false → (a || b) ≡ b
false_or false b e = refl
false_or true b e = grind arith

pub heads_found : (rs : List Rule) (n i : ℕ) (d : Rule) (whole : Bool) → i < length rs → heads (map rule_tree (drop i rs)) n ≡ whole
    → is_head n (side_tree ((get_or rs i d).left)) ≡ true → true ≡ whole
heads_found rs n i d whole h e g =
    sym (true_or _ (heads (map rule_tree (drop (i + 1) rs)) n) g) ∙ ap (λ l. heads (map rule_tree l) n) (sym (drop_next rs i d h)) ∙ e

pub heads_passed : (rs : List Rule) (n i : ℕ) (d : Rule) (whole : Bool) → i < length rs → heads (map rule_tree (drop i rs)) n ≡ whole
    → is_head n (side_tree ((get_or rs i d).left)) ≡ false → heads (map rule_tree (drop (i + 1) rs)) n ≡ whole
heads_passed rs n i d whole h e g =
    sym (false_or _ (heads (map rule_tree (drop (i + 1) rs)) n) g) ∙ ap (λ l. heads (map rule_tree l) n) (sym (drop_next rs i d h)) ∙ e

-- an entry put at the end, and those that are still to come
put_one : (before now after : List Entry) (e : Entry) (rest : List Entry) → now ++ e ∷ rest ≡ before → after ≡ now ++ e ∷ []
    → after ++ rest ≡ before
put_one before now after e rest h g = ap (λ l. l ++ rest) g ∙ append_assoc now (e ∷ []) rest ∙ h

pub symbols_more : (symbols : List tree.Symbol) (rules : List tree.Rule) (ss : List Symbol) (i : ℕ) (s : Symbol) (before now after : List Entry)
    → i < length ss → s ≡ get_or ss i s → now ++ symbol_entries symbols rules (i + 1) (symbols_tree (drop i ss)) ≡ before
    → after ≡ now ++ Entry.declare (symbol_name (symbol_tree s)) (heads rules (i + 1)) (symbol_type symbols (symbol_tree s)) ∷ []
    → after ++ symbol_entries symbols rules (i + 1 + 1) (symbols_tree (drop (i + 1) ss)) ≡ before
symbols_more symbols rules ss i s before now after h same e g =
    let x : suc (i + 1) ≡ i + 1 + 1 = omega arith in
    let d = drop_next ss i s h ∙ ap (λ z. z ∷ drop (i + 1) ss) (sym same) in
    ap (λ k. after ++ symbol_entries symbols rules k (symbols_tree (drop (i + 1) ss))) (sym x)
    ∙ put_one before now after _ (symbol_entries symbols rules (suc (i + 1)) (symbols_tree (drop (i + 1) ss)))
    (ap (λ l. now ++ symbol_entries symbols rules (i + 1) (symbols_tree l)) (sym d) ∙ e) g

pub declarable_more : (ss : List Symbol) (i : ℕ) (s : Symbol) → i < length ss → s ≡ get_or ss i s → All IsDeclarable (symbols_tree (take i ss))
    → IsDeclarable (symbol_tree s) → All IsDeclarable (symbols_tree (take (i + 1) ss))
declarable_more ss i s h same a d =
    subst (All IsDeclarable) (sym (map_more symbol_tree ss i s h ∙ ap (λ z. symbols_tree (take i ss) ++ symbol_tree z ∷ []) (sym same)))
    (All-push IsDeclarable (symbols_tree (take i ss)) (symbol_tree s) a d)

pub declarable_end : (ss : List Symbol) (i : ℕ) → length ss ≤ i → All IsDeclarable (symbols_tree (take i ss)) → All IsDeclarable (symbols_tree ss)
declarable_end ss i h a = subst (λ l. All IsDeclarable (symbols_tree l)) (take_all i ss h) a

-- a result over products, by what it is over
pub typed_by : {E : Type 0} (r : Result code.Lp E) (symbols : List tree.Symbol) (n : ℕ) (t u : Lp) → t ≡ u
    → IfOk r (λ x. (ss : List tree.Symbol) → term_of x ≡ over_types ss n t) → IfOk r (λ x. term_of x ≡ over_types symbols n u)
typed_by (Ok x) symbols n t u e h = h symbols ∙ ap (over_types symbols n) e
typed_by (Err x) symbols n t u e h = tt

-- the parts of a problem that a file can declare
pub writable : (p : Problem) (ss : List Symbol) (ps : List Premise) → ss ≡ p.symbols → ps ≡ p.premises → All IsDeclarable (symbols_tree ss)
    → length ps < 2 ^ 64 → IsWritable (problem_tree p)
writable p ss ps e g a l = record {
  symbols = subst (λ l. All IsDeclarable (symbols_tree l)) e a;
  premises = omega (arith, premises_counted p.premises, ap length g, l);
}
  where
    premises_counted : (ps : List Premise) → length (map premise_tree ps) ≡ length ps
    premises_counted [] = refl
    premises_counted (p ∷ ps) = omega (arith, premises_counted ps)

-- the entries of a typed problem's signature are a file's
pub file_of : {E : Type 0} (r : Result (List code_file.Entry) E) (p q : tree.Problem) (s : Selection) → q ≡ p → IsTypedProblem p
    → IfOk r (λ es. entries_of es ≡ signature q s) → IfOk r (λ es. IsWritable q) → IfOk r (λ es. IsSelection p s → IsFile (entries_of es))
file_of (Ok es) p q s e typed h w =
    λ selects. subst IsFile (sym (h ∙ ap (λ x. signature x s) e)) (signatures_are_files p s typed selects (subst IsWritable e w))
file_of (Err x) p q s e typed h w = tt

pub rules_more : (symbols : List tree.Symbol) (rs : List Rule) (i : ℕ) (d : Rule) (before now after : List Entry)
    → i < length rs → now ++ map (rule_entry symbols) (map rule_tree (drop i rs)) ≡ before
    → after ≡ now ++ rule_entry symbols (rule_tree (get_or rs i d)) ∷ []
    → after ++ map (rule_entry symbols) (map rule_tree (drop (i + 1) rs)) ≡ before
rules_more symbols rs i d before now after h e g =
    put_one before now after (rule_entry symbols (rule_tree (get_or rs i d))) (map (rule_entry symbols) (map rule_tree (drop (i + 1) rs)))
    (ap (λ l. now ++ map (rule_entry symbols) (map rule_tree l)) (sym (drop_next rs i d h)) ∙ e) g

-- the kept premises from one on
abbrev pub kept_from : List Premise → List (Option ℕ) → ℕ → List tree.Premise
kept_from ps ks i = kept_of (map premise_tree (drop i ps)) (drop i ks)

pub premises_more : (symbols : List tree.Symbol) (n : ℕ) (p : Premise) (rest : List tree.Premise) (all : List tree.Premise) (before now after : List Entry)
    → all ≡ premise_tree p ∷ rest → now ++ premise_entries symbols n all ≡ before
    → after ≡ now ++ Entry.declare (premise_name n) false (prf (form_of symbols Scope.none (form_tree p.form))) ∷ []
    → after ++ premise_entries symbols (n + 1) rest ≡ before
premises_more symbols n p rest all before now after a e g =
    let x : suc n ≡ n + 1 = omega arith in
    ap (λ k. after ++ premise_entries symbols k rest) (sym x)
    ∙ put_one before now after _ (premise_entries symbols (suc n) rest) (ap (λ l. now ++ premise_entries symbols n l) (sym a) ∙ e) g

drop_at : {X : Type 0} (xs : List X) (i : ℕ) (x : X) → slice_get xs i ≡ Some x → drop i xs ≡ x ∷ drop (suc i) xs
drop_at [] i x e = absurd (cc (e))
drop_at (y ∷ ys) zero x e = let h : y ≡ x = cc (e) in ap (λ z. z ∷ ys) h
drop_at (y ∷ ys) (suc i) x e = drop_at ys i x e

drop_past : {X : Type 0} (xs : List X) (i : ℕ) → slice_get xs i ≡ None → (drop i xs ≡ []) × (drop (suc i) xs ≡ [])
drop_past [] zero e = (refl, refl)
drop_past [] (suc i) e = (refl, refl)
drop_past (y ∷ ys) zero e = absurd (cc (e))
drop_past (y ∷ ys) (suc i) e = drop_past ys i e

kept_of_none : (ps : List tree.Premise) → kept_of ps [] ≡ []
kept_of_none [] = refl
kept_of_none (p ∷ ps) = refl

pub kept_here : (ps : List Premise) (ks : List (Option ℕ)) (i : ℕ) (d : Premise) → i < length ps → slice_get ks i ≡ Some None
    → kept_from ps ks i ≡ premise_tree (get_or ps i d) ∷ kept_from ps ks (i + 1)
kept_here ps ks i d h e =
    let x : suc i ≡ i + 1 = omega arith in
    ap (λ l. kept_of (map premise_tree l) (drop i ks)) (drop_next ps i d h)
    ∙ ap (λ l. kept_of (premise_tree (get_or ps i d) ∷ map premise_tree (drop (i + 1) ps)) l) (drop_at ks i None e)
    ∙ ap (λ k. premise_tree (get_or ps i d) ∷ kept_of (map premise_tree (drop (i + 1) ps)) (drop k ks)) x

pub kept_later : (ps : List Premise) (ks : List (Option ℕ)) (i k : ℕ) (d : Premise) → i < length ps → slice_get ks i ≡ Some (Some k)
    → kept_from ps ks i ≡ kept_from ps ks (i + 1)
kept_later ps ks i k d h e =
    let x : suc i ≡ i + 1 = omega arith in
    ap (λ l. kept_of (map premise_tree l) (drop i ks)) (drop_next ps i d h)
    ∙ ap (λ l. kept_of (premise_tree (get_or ps i d) ∷ map premise_tree (drop (i + 1) ps)) l) (drop_at ks i (Some k) e)
    ∙ ap (λ j. kept_of (map premise_tree (drop (i + 1) ps)) (drop j ks)) x

pub kept_past : (ps : List Premise) (ks : List (Option ℕ)) (i : ℕ) → slice_get ks i ≡ None → kept_from ps ks i ≡ kept_from ps ks (i + 1)
kept_past ps ks i e =
    let x : suc i ≡ i + 1 = omega arith in
    let g = drop_past ks i e in
    ap (kept_of (map premise_tree (drop i ps))) g.0 ∙ kept_of_none (map premise_tree (drop i ps))
    ∙ sym (ap (kept_of (map premise_tree (drop (i + 1) ps))) (ap (λ k. drop k ks) (sym x) ∙ g.1) ∙ kept_of_none (map premise_tree (drop (i + 1) ps)))

pub kept_else : (ps : List Premise) (ks : List (Option ℕ)) (i : ℕ) (d : Premise) → i < length ps → slice_get ks i ≢ Some None
    → kept_from ps ks i ≡ kept_from ps ks (i + 1)
kept_else ps ks i d h e = go (slice_get ks i) refl
  where
    go : (o : Option (Option ℕ)) → slice_get ks i ≡ o → kept_from ps ks i ≡ kept_from ps ks (i + 1)
    go None g = kept_past ps ks i g
    go (Some None) g = absurd (e g)
    go (Some (Some k)) g = kept_later ps ks i k d h g
