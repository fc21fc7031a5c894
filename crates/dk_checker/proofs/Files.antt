-- The entries of a file are scoped, and an accepted file is well formed.
use Rattle.std.proofs.Common.{ℕ, suc, List, [], ◌∷◌, ◌++◌, sym, subst, append_assoc, append-nil}
use Rattle.lp_terms.specs.Term.{Lp}
use Rattle.lp_terms.specs.Signature.{Entry, Holds}
use Rattle.lp_terms.specs.Signature as sig
use Rattle.lp_terms.specs.WellFormed.{IsWellFormedEntry, IsWellFormedAfter, IsWellFormed}
use Rattle.lp_terms.specs.File.{IsTermOf, IsContextOf, IsEntryOf, AreEntriesOf, IsFile}
use Rattle.lp_terms.specs.File as file
use Rattle.lp_terms.proofs.WellFormedSignatures.{constant_is_sorted}
use Rattle.lp_reduce.specs.Scope.{IsScoped, AreScopedTypes, IsScopedEntry, IsScopedSignature}
use Rattle.lp_reduce.specs.Scope as sc
use Rattle.lp_reduce.proofs.Scoped.{signature_no_free}
use Rattle.dk_checker.specs.Found.{IfGives}
use Rattle.dk_checker.specs.Inference.{check_entry, check_after}
use Rattle.dk_checker.specs.Laws.{AcceptedIsWellFormed}
use Rattle.dk_checker.proofs.Answers.{if_part_then, if_each}
use Rattle.dk_checker.proofs.Inferred.{entry_checked}

pub term_scoped : {declared : List (List ℕ)} {k : ℕ} {t : Lp} → IsTermOf declared k t → IsScoped 0 k t
term_scoped file.IsTermOf.sort = sc.IsScoped.sort
term_scoped (file.IsTermOf.const d) = sc.IsScoped.const
term_scoped (file.IsTermOf.index b) = sc.IsScoped.index b
term_scoped (file.IsTermOf.app f a) = sc.IsScoped.app (term_scoped f) (term_scoped a)
term_scoped (file.IsTermOf.abs a b) = sc.IsScoped.abs (term_scoped a) (term_scoped b)
term_scoped (file.IsTermOf.prod a b) = sc.IsScoped.prod (term_scoped a) (term_scoped b)

context_scoped : {declared : List (List ℕ)} {k : ℕ} {types : List Lp} → IsContextOf declared k types → AreScopedTypes k types
context_scoped file.IsContextOf.empty = tt
context_scoped (file.IsContextOf.bind t ts) = (term_scoped t, context_scoped ts)

pub entry_scoped : {declared : List (List ℕ)} {e : Entry} → IsEntryOf declared e → IsScopedEntry e
entry_scoped (file.IsEntryOf.declare n t) = term_scoped t
entry_scoped (file.IsEntryOf.define n t b) = (term_scoped t, term_scoped b)
entry_scoped (file.IsEntryOf.rule c l r h o) = (context_scoped c, term_scoped l, term_scoped r)

-- each entry is scoped
abbrev pub EachScoped : List Entry → Type 0
EachScoped [] = Unit {0}
EachScoped (e ∷ entries) = IsScopedEntry e × EachScoped entries

entries_scoped : {declared : List (List ℕ)} {es : List Entry} → AreEntriesOf declared es → EachScoped es
entries_scoped file.AreEntriesOf.done = tt
entries_scoped (file.AreEntriesOf.next e es) = (entry_scoped e, entries_scoped es)

-- one entry more
pub scoped_append : (sigma : List Entry) (e d : Entry) → IsScopedSignature sigma → IsScopedEntry e → Holds (sigma ++ (e ∷ [])) d → IsScopedEntry d
scoped_append [] e d w s sig.Holds.first = s
scoped_append [] e d w s (sig.Holds.later h) = elim h [ ]
scoped_append (c ∷ sigma) e d w s sig.Holds.first = w c sig.Holds.first
scoped_append (c ∷ sigma) e d w s (sig.Holds.later h) = scoped_append sigma e d (λ x i. w x (sig.Holds.later i)) s h

well_formed_append : (tau sigma : List Entry) (e : Entry) → IsWellFormedAfter tau sigma → IsWellFormedEntry (tau ++ sigma) e → IsWellFormedAfter tau (sigma ++ (e ∷ []))
well_formed_append tau [] e w h = (subst (λ s. IsWellFormedEntry s e) (append-nil tau) h, tt)
well_formed_append tau (d ∷ sigma) e w h =
    (w.0, well_formed_append (tau ++ (d ∷ [])) sigma e w.1 (subst (λ s. IsWellFormedEntry s e) (sym (append_assoc tau (d ∷ []) sigma)) h))

after_checked : (limit : ℕ) (sigma : List Entry) (k : ℕ) (entries : List Entry) → IsScopedSignature sigma → IsWellFormed sigma → EachScoped entries →
    IfGives (check_after limit sigma k entries) (λ o. IsWellFormedAfter sigma entries)
after_checked limit sigma k [] w f s = tt
after_checked limit sigma k (e ∷ entries) w f s =
    let tau : List Entry = sigma ++ (e ∷ []) in
    if_part_then (λ o. IsWellFormedEntry sigma e) (λ o. IsWellFormedAfter sigma (e ∷ entries)) k (check_entry sigma limit e) (λ o. check_after limit tau (suc k) entries)
    (entry_checked sigma limit w (signature_no_free sigma w) (constant_is_sorted sigma f) e s.0)
    (λ o h. if_each (λ o. IsWellFormedAfter tau entries) (λ o. IsWellFormedAfter sigma (e ∷ entries)) (check_after limit tau (suc k) entries)
    (after_checked limit tau (suc k) entries (λ d i. scoped_append sigma e d w s.0 i) (well_formed_append [] sigma e f h) s.1)
    (λ o q. (h, q)))

-- an accepted file is well formed
pub accepted_is_well_formed : AcceptedIsWellFormed
accepted_is_well_formed limit entries f e =
    subst (λ m. IfGives m (λ o. IsWellFormed entries)) e (after_checked limit [] 0 entries (λ d i. elim i [ ]) tt (entries_scoped f.in_order))
