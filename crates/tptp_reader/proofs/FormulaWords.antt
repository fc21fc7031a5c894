-- The words of fof and tff statements are not those of other languages.
use Rattle.std.proofs.Common.{◌≡◌, ℕ, Bool, true, false, cond, List, ◌∷◌, codes, Some, None, refl, sym, ◌∙◌, ap}
use Rattle.std.specs.Prelude.{◌||◌}
use Rattle.std.specs.Str.{bytes_eq}
use Rattle.std.proofs.lemmas.Slice.Eq.{bytes_eq-Decides}
use Rattle.tptp_reader.specs.declared.refusal.UnsupportedForm.TheVariants as forms
use Rattle.tptp_reader.specs.Tokens.{Token, lower}
use Rattle.tptp_reader.specs.Rows.{Fault, or_else, is_formula_word, is_other_word, formula_rows, early_fault}

not_other : (word : List ℕ) (b c : Bool) → bytes_eq word (codes "fof") ≡ b → bytes_eq word (codes "tff") ≡ c → (b || c) ≡ true → is_other_word word ≡ false
not_other word true c e f h = ap (λ (w : List ℕ). is_other_word w) ((bytes_eq-Decides word (codes "fof")).0 e)
not_other word false true e f h = ap (λ (w : List ℕ). is_other_word w) ((bytes_eq-Decides word (codes "tff")).0 f)
not_other word false false e f h = cc

-- such a word's statement is refused by its own rows alone
front_early : (word : List ℕ) (tokens : List Token) → is_formula_word word ≡ true → early_fault (lower word ∷ tokens) ≡ formula_rows word (lower word ∷ tokens)
front_early word tokens h =
    ap (λ b. or_else (cond b (Some (Fault.unsupported forms.Statement 0)) None) (cond (is_formula_word word) (formula_rows word (lower word ∷ tokens)) None))
    (not_other word (bytes_eq word (codes "fof")) (bytes_eq word (codes "tff")) refl refl h)
    ∙ ap (λ b. cond b (formula_rows word (lower word ∷ tokens)) None) h

pub formula_early : (word : List ℕ) (tokens rest : List Token) → tokens ≡ lower word ∷ rest → is_formula_word word ≡ true → early_fault tokens ≡ formula_rows word tokens
formula_early word tokens rest e h = ap early_fault e ∙ front_early word rest h ∙ sym (ap (formula_rows word) e)
