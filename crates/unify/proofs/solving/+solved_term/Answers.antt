use Rattle.std.proofs.Common.{ℕ, ◌≡◌, ◌≢◌, ◌+◌, ◌<◌, List, [], ◌∷◌, ◌++◌, IfOk, IfErr, get_or, length, take, ap, sym, subst, ◌∙◌, arith, rules}
use Rattle.zm_logic.specs.Tree.{Tys, Term, Terms}
use Rattle.zm_logic.specs.Measure.{types_depth, term_depth, terms_depth}
use Rattle.term_store.specs.Change.{IsTermId, AreTermIds}
use Rattle.term_store.specs.Fault.{IfTooDeep}
use Rattle.term_store.specs.Node.{TypesBelow, TermsBelow, types_at, terms_at}
use Rattle.term_store.specs.Trees.{term_of, all_trees}
use Rattle.term_store.specs.declared.ids.TermId.{TermId}
use Rattle.term_store.proofs.Loops.{term_below_at}
use Rattle.term_store.proofs.Kept.{extends_more, still_term, still_types, still_terms}
use Rattle.term_store.proofs.Stays.{term_ids_stay, term_ids_push, if_deeper, err_deeper}
use Rattle.unify.specs.Binding.{solved_term}
use Rattle.unify.specs.View.{latest}
use Rattle.unify.specs.Solving.{all_types, all_terms}
use Rattle.unify.proofs.Building.{have_kept, term_goal, term_within, term_positive, all_terms_more}
use Rattle.unify.proofs.Whole.{some_of, none_of, lawful_kept, term_head_solved, term_is_leaf, app_deeper_type, app_deeper, app_whole, app_head}
use Rattle.unify.proofs.solving.+solved_term.Goals as goal

pub solved_term-returns-in_err-left-clause-deep : goal.solved_term-returns-in_err-left-clause-deep
solved_term-returns-in_err-left-clause-deep t c =
    let s = c.args.store.now in let made = c.args.made.now in
    let p = term_positive (solved_term (latest s made) (term_of s c.args.id)) in
    let deep : IfTooDeep (c.args.room < term_depth (solved_term (latest s made) (term_of s c.args.id))) c.in_err-left.field-0.0 =
    if_deeper (c.args.room ≡ 0) _ (λ e. omega (arith, e, p)) c.in_err-left.field-0.0 c.in_err-left.ensures.deep in
    search rules

pub solved_term-returns-in-Some-clause-made : goal.solved_term-returns-in-Some-clause-made
solved_term-returns-in-Some-clause-made t c =
    let s = c.args.store.now in let made = c.args.made.now in let head = c.term_head-head.result in
    let k = c.requires.knows.terms head c.in-Some.whole (sym c.in-Some.ensures) in
    (k.1.0, k.1.1 ∙ term_head_solved s made c.requires.lawful c.args.id head c.term_head-head.ensures.tree)

pub solved_term-returns-in_err-types-in-Some-2-clause-deep : goal.solved_term-returns-in_err-types-in-Some-2-clause-deep
solved_term-returns-in_err-types-in-Some-2-clause-deep t c =
    let s = c.args.store.now in let made = c.args.made.now in let head = c.term_head-head.result in
    let is = some_of (λ p. term_of s head ≡ Term.app p.0.0 (types_at (all_trees s).types p.1) (terms_at (all_trees s).terms p.2)) c.in_ok-symbol.field-0 _ c.in-Some-2.is c.in_ok-symbol.ensures.some in
    let deep : IfTooDeep (c.args.room < term_depth (solved_term (latest s made) (term_of s c.args.id))) c.in_err-types-in-Some-2.field-0.0 =
    if_deeper (c.in_ok-left.left < types_depth (all_types (latest s made) (types_at (all_trees s).types c.in-Some-2.types))) _
    (app_deeper_type s made c.requires.lawful c.args.id head c.term_head-head.ensures.tree c.in-Some-2.symbol.0 c.in-Some-2.types c.in-Some-2.terms is c.in_ok-left.left c.args.room c.in_ok-left.ensures.ok)
    c.in_err-types-in-Some-2.field-0.0 c.in_err-types-in-Some-2.ensures.deep in
    search rules

pub solved_term-solved_terms-requires : goal.solved_term-solved_terms-requires
solved_term-solved_terms-requires t c =
    let s = c.args.store.now in let made = c.args.made.now in let head = c.term_head-head.result in
    let below = (some_of (λ p. TypesBelow (length s.types) p.1 × TermsBelow (length s.terms) p.2) c.in_ok-symbol.field-0 _ c.in-Some-2.is c.in_ok-symbol.ensures.below).1 in
    let now = c.solved_tys.new.store in let x = c.in_ok-types-in-Some-2.ensures.kept in (
      omega (arith, c.decreases, c.in_ok-left.ensures.ok),
      (
        still_terms s now x c.in-Some-2.terms below,
        (have_kept s now x made c.requires.have, (lawful_kept s now x made c.requires.have c.requires.lawful, (c.in_ok-types-in-Some-2.ensures.knows, omega (arith, c.in_ok-left.ensures.ok, c.requires.room)))),
      ),
    )

pub solved_term-returns-in_err-terms-in-Some-2-clause-deep : goal.solved_term-returns-in_err-terms-in-Some-2-clause-deep
solved_term-returns-in_err-terms-in-Some-2-clause-deep t c =
    let s = c.args.store.now in let made = c.args.made.now in let head = c.term_head-head.result in
    let is = some_of (λ p. term_of s head ≡ Term.app p.0.0 (types_at (all_trees s).types p.1) (terms_at (all_trees s).terms p.2)) c.in_ok-symbol.field-0 _ c.in-Some-2.is c.in_ok-symbol.ensures.some in
    let below = (some_of (λ p. TypesBelow (length s.types) p.1 × TermsBelow (length s.terms) p.2) c.in_ok-symbol.field-0 _ c.in-Some-2.is c.in_ok-symbol.ensures.below).1 in
    let now = c.solved_tys.new.store in let x = c.in_ok-types-in-Some-2.ensures.kept in
    let deep : IfTooDeep (c.args.room < term_depth (solved_term (latest s made) (term_of s c.args.id))) c.in_err-terms-in-Some-2.field-0.0 =
    if_deeper (c.in_ok-left.left < terms_depth (all_terms (latest now made) (terms_at (all_trees now).terms c.in-Some-2.terms))) _
    (app_deeper s made c.requires.lawful c.args.id head c.term_head-head.ensures.tree c.in-Some-2.symbol.0 c.in-Some-2.types c.in-Some-2.terms is now x c.requires.have below c.in_ok-left.left c.args.room c.in_ok-left.ensures.ok)
    c.in_err-terms-in-Some-2.field-0.0 c.in_err-terms-in-Some-2.ensures.deep in
    search rules

pub solved_term-returns-in_err-terms-in-Some-2-clause-kept : goal.solved_term-returns-in_err-terms-in-Some-2-clause-kept
solved_term-returns-in_err-terms-in-Some-2-clause-kept t c =
    extends_more c.args.store.now c.solved_tys.new.store c.solved_terms.new.store c.in_ok-types-in-Some-2.ensures.kept c.in_err-terms-in-Some-2.ensures.kept

pub solved_term-keep_term-requires-clause-has : goal.solved_term-keep_term-requires-clause-has
solved_term-keep_term-requires-clause-has t c =
    let s = c.args.store.now in let made = c.args.made.now in let head = c.term_head-head.result in
    let now = c.solved_tys.new.store in let x = c.in_ok-types-in-Some-2.ensures.kept in
    let later = c.solved_terms.new.store in let y = c.in_ok-terms-in-Some-2.ensures.kept in
    still_term s later (extends_more s now later x y) head c.term_head-head.ensures.has

pub solved_term-keep_term-requires-clause-parts : goal.solved_term-keep_term-requires-clause-parts
solved_term-keep_term-requires-clause-parts t c =
    let now = c.solved_tys.new.store in let x = c.in_ok-types-in-Some-2.ensures.kept in
    let later = c.solved_terms.new.store in let y = c.in_ok-terms-in-Some-2.ensures.kept in
    (still_types now later y c.in_ok-types-in-Some-2.types c.in_ok-types-in-Some-2.ensures.made.0, c.in_ok-terms-in-Some-2.ensures.made.0)

pub solved_term-keep_term-requires-clause-have : goal.solved_term-keep_term-requires-clause-have
solved_term-keep_term-requires-clause-have t c =
    let s = c.args.store.now in
    let now = c.solved_tys.new.store in let x = c.in_ok-types-in-Some-2.ensures.kept in
    let later = c.solved_terms.new.store in let y = c.in_ok-terms-in-Some-2.ensures.kept in
    have_kept s later (extends_more s now later x y) c.args.made.now c.requires.have

pub solved_term-keep_term-requires-clause-solved : goal.solved_term-keep_term-requires-clause-solved
solved_term-keep_term-requires-clause-solved t c =
    let s = c.args.store.now in let made = c.args.made.now in let head = c.term_head-head.result in
    let is = some_of (λ p. term_of s head ≡ Term.app p.0.0 (types_at (all_trees s).types p.1) (terms_at (all_trees s).terms p.2)) c.in_ok-symbol.field-0 _ c.in-Some-2.is c.in_ok-symbol.ensures.some in
    let below = (some_of (λ p. TypesBelow (length s.types) p.1 × TermsBelow (length s.terms) p.2) c.in_ok-symbol.field-0 _ c.in-Some-2.is c.in_ok-symbol.ensures.below).1 in
    let now = c.solved_tys.new.store in let x = c.in_ok-types-in-Some-2.ensures.kept in
    let later = c.solved_terms.new.store in let y = c.in_ok-terms-in-Some-2.ensures.kept in
    app_head s made c.requires.lawful c.args.id head c.term_head-head.ensures.tree c.in-Some-2.symbol.0 c.in-Some-2.types c.in-Some-2.terms is
    now x c.requires.have below later y c.in_ok-types-in-Some-2.types c.in_ok-terms-in-Some-2.terms c.in_ok-types-in-Some-2.ensures.made c.in_ok-terms-in-Some-2.ensures.made c.term_head-head.ensures.has

pub solved_term-returns-in_ok-terms-in-Some-2-clause-made : goal.solved_term-returns-in_ok-terms-in-Some-2-clause-made
solved_term-returns-in_ok-terms-in-Some-2-clause-made t c =
    let s = c.args.store.now in let made = c.args.made.now in let head = c.term_head-head.result in
    let is = some_of (λ p. term_of s head ≡ Term.app p.0.0 (types_at (all_trees s).types p.1) (terms_at (all_trees s).terms p.2)) c.in_ok-symbol.field-0 _ c.in-Some-2.is c.in_ok-symbol.ensures.some in
    let below = (some_of (λ p. TypesBelow (length s.types) p.1 × TermsBelow (length s.terms) p.2) c.in_ok-symbol.field-0 _ c.in-Some-2.is c.in_ok-symbol.ensures.below).1 in
    let now = c.solved_tys.new.store in let x = c.in_ok-types-in-Some-2.ensures.kept in
    let later = c.solved_terms.new.store in let y = c.in_ok-terms-in-Some-2.ensures.kept in
    let whole = app_whole s made c.requires.lawful c.args.id head c.term_head-head.ensures.tree c.in-Some-2.symbol.0 c.in-Some-2.types c.in-Some-2.terms is
    now x c.requires.have below later y c.in_ok-types-in-Some-2.types c.in_ok-terms-in-Some-2.terms c.in_ok-types-in-Some-2.ensures.made c.in_ok-terms-in-Some-2.ensures.made in
    subst (λ (z : Term). IfOk c.keep_term.result (IsTermId c.keep_term.new.store z)) whole c.keep_term.ensures.made

pub solved_term-returns-in_ok-terms-in-Some-2-clause-deep : goal.solved_term-returns-in_ok-terms-in-Some-2-clause-deep
solved_term-returns-in_ok-terms-in-Some-2-clause-deep t c =
    let s = c.args.store.now in let made = c.args.made.now in let head = c.term_head-head.result in
    let is = some_of (λ p. term_of s head ≡ Term.app p.0.0 (types_at (all_trees s).types p.1) (terms_at (all_trees s).terms p.2)) c.in_ok-symbol.field-0 _ c.in-Some-2.is c.in_ok-symbol.ensures.some in
    let below = (some_of (λ p. TypesBelow (length s.types) p.1 × TermsBelow (length s.terms) p.2) c.in_ok-symbol.field-0 _ c.in-Some-2.is c.in_ok-symbol.ensures.below).1 in
    let now = c.solved_tys.new.store in let x = c.in_ok-types-in-Some-2.ensures.kept in
    let later = c.solved_terms.new.store in let y = c.in_ok-terms-in-Some-2.ensures.kept in
    let whole = app_whole s made c.requires.lawful c.args.id head c.term_head-head.ensures.tree c.in-Some-2.symbol.0 c.in-Some-2.types c.in-Some-2.terms is
    now x c.requires.have below later y c.in_ok-types-in-Some-2.types c.in_ok-terms-in-Some-2.terms c.in_ok-types-in-Some-2.ensures.made c.in_ok-terms-in-Some-2.ensures.made in
    let d = subst (λ (z : Term). IfErr c.keep_term.result (IfTooDeep (2000 < term_depth z))) whole c.keep_term.ensures.deep in
    err_deeper _ _ (λ h. omega (arith, h, c.requires.room)) c.keep_term.result d

pub solved_term-returns-in_ok-terms-in-Some-2-clause-kept : goal.solved_term-returns-in_ok-terms-in-Some-2-clause-kept
solved_term-returns-in_ok-terms-in-Some-2-clause-kept t c =
    let s = c.args.store.now in
    let now = c.solved_tys.new.store in let x = c.in_ok-types-in-Some-2.ensures.kept in
    let later = c.solved_terms.new.store in let y = c.in_ok-terms-in-Some-2.ensures.kept in
    extends_more s later c.keep_term.new.store (extends_more s now later x y) c.keep_term.ensures.kept

pub solved_term-returns-in-None-clause-made : goal.solved_term-returns-in-None-clause-made
solved_term-returns-in-None-clause-made t c =
    let s = c.args.store.now in let made = c.args.made.now in let head = c.term_head-head.result in
    let is = none_of ((n : ℕ) (ts : Tys) (us : Terms) → term_of s head ≢ Term.app n ts us) c.in_ok-symbol.field-0 c.in-None.is c.in_ok-symbol.ensures.none in
    (c.term_head-head.ensures.has, term_is_leaf s made c.requires.lawful c.args.id head c.term_head-head.ensures.tree is)

pub solved_terms-solved_term-requires : goal.solved_terms-solved_term-requires
solved_terms-solved_term-requires t c =
    let s = c.args.store.now in
    let m = c.loop-id.store in
    let made = c.args.made.now in
    let kept = c.loop-id.invariant.kept in
    let ids = c.as_slice-id-items.result.now in
    let below = subst (TermsBelow (length s.terms)) (sym c.as_slice-id-items.ensures) c.requires.below in
    let has = term_below_at (length s.terms) ids below c.loop-id.id-index (record { 0 = 0 }) c.loop-id-test.true in (
      omega (arith, c.decreases),
      (
        still_term s m kept (get_or ids c.loop-id.id-index (record { 0 = 0 })) has,
        (have_kept s m kept made c.requires.have, (lawful_kept s m kept made c.requires.have c.requires.lawful, (c.loop-id.invariant.knows, c.requires.room))),
      ),
    )

pub solved_terms-returns-in_err-whole-clause-deep : goal.solved_terms-returns-in_err-whole-clause-deep
solved_terms-returns-in_err-whole-clause-deep t c =
    let s = c.args.store.now in
    let m = c.loop-id.store in
    let made = c.args.made.now in
    let ids = c.as_slice-id-items.result.now in
    let id = get_or ids c.loop-id.id-index (record { 0 = 0 }) in
    let below = subst (TermsBelow (length s.terms)) (sym c.as_slice-id-items.ensures) c.requires.below in
    let has = term_below_at (length s.terms) ids below c.loop-id.id-index (record { 0 = 0 }) c.loop-id-test.true in
    let same = ap term_depth (term_goal s m c.loop-id.invariant.kept made c.requires.have id has) in
    let within = term_within (latest s made) (all_trees s).terms ids c.loop-id.id-index (record { 0 = 0 }) c.loop-id-test.true in
    let all = ap (λ is. terms_depth (all_terms (latest s made) (terms_at (all_trees s).terms is))) c.as_slice-id-items.ensures in
    let deep : IfTooDeep (c.args.room < terms_depth (all_terms (latest s made) (terms_at (all_trees s).terms c.args.ids.now))) c.in_err-whole.field-0.0 =
    if_deeper (c.args.room < term_depth (solved_term (latest m made) (term_of m id))) _ (λ h. omega (arith, h, same, within, all)) c.in_err-whole.field-0.0 c.in_err-whole.ensures.deep in
    search rules

pub solved_terms-returns-in_err-push-clause-kept : goal.solved_terms-returns-in_err-push-clause-kept
solved_terms-returns-in_err-push-clause-kept t c =
    extends_more c.args.store.now c.loop-id.store c.solved_term.new.store c.loop-id.invariant.kept c.in_ok-whole.ensures.kept

pub solved_terms-loop-id-preserved : goal.solved_terms-loop-id-preserved
solved_terms-loop-id-preserved t c =
    let s = c.args.store.now in
    let m = c.loop-id.store in
    let n = c.solved_term.new.store in
    let made = c.args.made.now in
    let before = c.loop-id.invariant in
    let now = c.in_ok-whole.ensures in
    let ids = c.as_slice-id-items.result.now in
    let i = c.loop-id.id-index in
    let id = get_or ids i (record { 0 = 0 }) in
    let below = subst (TermsBelow (length s.terms)) (sym c.as_slice-id-items.ensures) c.requires.below in
    let has = term_below_at (length s.terms) ids below i (record { 0 = 0 }) c.loop-id-test.true in
    let goal = solved_term (latest s made) (term_of s id) in
    let same = term_goal s m before.kept made c.requires.have id has in
    let here = subst (λ (x : Term). IsTermId n x c.in_ok-whole.whole) same now.made in
    let first = all_terms (latest s made) (terms_at (all_trees s).terms (take i ids)) in
    let still = term_ids_stay m n now.kept first c.loop-id.all before.made in
    let pushed = term_ids_push n first goal c.loop-id.all c.in_ok-whole.whole still here in
    let all = all_terms_more (latest s made) (all_trees s).terms ids i (record { 0 = 0 }) c.loop-id-test.true in
    let As : Terms → Type 0 = λ xs. AreTermIds n xs (c.loop-id.all ++ c.in_ok-whole.whole ∷ []) in
    let Ids : List TermId → Type 0 = λ is. AreTermIds n (all_terms (latest s made) (terms_at (all_trees s).terms (take (i + 1) ids))) is in
    record {
      made = subst Ids (sym c.in_ok-push.ensures.ok) (subst As (sym all) pushed);
      kept = extends_more s m n before.kept now.kept;
      knows = now.knows;
    }
