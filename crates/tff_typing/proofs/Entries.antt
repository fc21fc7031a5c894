-- The symbols of a table's entries, one further.
use Rattle.std.proofs.Common.{◌≡◌, ℕ, zero, suc, ◌+◌, Some, None, List, [], ◌∷◌, ◌++◌, map, slice_get, take, refl, ap, sym, ◌∙◌, add-one}
use Rattle.std.proofs.lemmas.Option.{same_Some, none-some}
use Rattle.zm_logic.specs.declared.problem.Symbol.{Symbol}
use Rattle.zm_logic.specs.View.{symbol_tree}
use Rattle.tff_typing.specs.declared.symbols.Key.{Key}
use Rattle.tff_typing.specs.declared.symbols.Declaration.{Declaration}
use Rattle.tff_typing.specs.Table as table
use Rattle.tff_typing.specs.View.{entry_tree, symbol_of}

symbols_push : (ss : List Symbol) (s : Symbol)
    → map symbol_tree (ss ++ s ∷ []) ≡ map symbol_tree ss ++ symbol_tree s ∷ []
symbols_push [] s = refl
symbols_push (x ∷ xs) s = ap (λ l. symbol_tree x ∷ l) (symbols_push xs s)

entries_push : (es : List (Key × Declaration)) (i : ℕ) (e : Key × Declaration) → Some e ≡ slice_get es i
    → table.symbols_of (map entry_tree (take (suc i) es))
    ≡ table.symbols_of (map entry_tree (take i es)) ++ symbol_of e.0.name.now e.0.parts e.1 ∷ []
entries_push [] i e h = absurd (none-some e (sym h))
entries_push (x ∷ xs) zero e h =
    ap (λ (y : Key × Declaration). symbol_of y.0.name.now y.0.parts y.1 ∷ []) (sym (same_Some e x h))
entries_push (x ∷ xs) (suc i) e h = ap (λ l. symbol_of x.0.name.now x.0.parts x.1 ∷ l) (entries_push xs i e h)

pub symbols_step : (es : List (Key × Declaration)) (i : ℕ) (k : Key) (d : Declaration) (ss : List Symbol) (s : Symbol)
    → Some (k, d) ≡ slice_get es i
    → map symbol_tree ss ≡ table.symbols_of (map entry_tree (take i es))
    → symbol_tree s ≡ symbol_of k.name.now k.parts d
    → map symbol_tree (ss ++ s ∷ []) ≡ table.symbols_of (map entry_tree (take (i + 1) es))
symbols_step es i k d ss s h e f = rw (add-one, symbols_push ss s, e, f) (sym (entries_push es i (k, d) h))

pub symbols_end : (es : List (Key × Declaration)) (i : ℕ) (ss : List Symbol) → None ≡ slice_get es i
    → map symbol_tree ss ≡ table.symbols_of (map entry_tree (take i es))
    → map symbol_tree ss ≡ table.symbols_of (map entry_tree es)
symbols_end es i ss h e = e ∙ ap (λ l. table.symbols_of (map entry_tree l)) (all_taken es i h)
  where
    all_taken : (es : List (Key × Declaration)) (i : ℕ) → None ≡ slice_get es i → take i es ≡ es
    all_taken [] zero h = refl
    all_taken [] (suc i) h = refl
    all_taken (x ∷ xs) zero h = absurd (none-some x h)
    all_taken (x ∷ xs) (suc i) h = ap (λ l. x ∷ l) (all_taken xs i h)
