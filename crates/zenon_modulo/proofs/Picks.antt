-- The text of picks, one pick further.
use Rattle.std.proofs.Common.{ℕ, suc, ◌≡◌, ◌+◌, ◌<◌, nat_eq, List, [], ◌∷◌, ◌++◌, length, get_or, take, arith, ap, sym, ◌∙◌, append_assoc, codes, decimal, if◌then◌else◌}
use Rattle.std.proofs.lemmas.List.{take_more, append-nil, length-take-le}
use Rattle.std.proofs.lemmas.Bool.{ne_eqb}
use Rattle.zenon_modulo.specs.Text.{further_picks, picks_text}

abbrev separator : ℕ → List ℕ
separator i = if (nat_eq i 0) then codes " " else codes ","

further_push : (ks : List ℕ) (k : ℕ) → further_picks (ks ++ k ∷ []) ≡ further_picks ks ++ (codes "," ++ decimal k)
further_push [] k = append-nil (codes "," ++ decimal k)
further_push (x ∷ xs) k =
    ap (λ t. (codes "," ++ decimal x) ++ t) (further_push xs k)
    ∙ sym (append_assoc (codes "," ++ decimal x) (further_picks xs) (codes "," ++ decimal k))

picks_push : (ks : List ℕ) (k : ℕ) → picks_text (ks ++ k ∷ []) ≡ picks_text ks ++ (separator (length ks) ++ decimal k)
picks_push [] k = append-nil (codes " " ++ decimal k)
picks_push (x ∷ xs) k =
    ap (λ t. (codes " " ++ decimal x) ++ t) (further_push xs k)
    ∙ sym (append_assoc (codes " " ++ decimal x) (further_picks xs) (codes "," ++ decimal k))
    ∙ ap (λ b. picks_text (x ∷ xs) ++ ((if b then codes " " else codes ",") ++ decimal k)) (sym (ne_eqb (suc (length xs)) 0 (λ e. cc)))

pub picks_step : (start before after ks : List ℕ) (i d : ℕ) → i < length ks → before ≡ start ++ picks_text (take i ks)
    → after ≡ before ++ separator i ++ decimal (get_or ks i d) → after ≡ start ++ picks_text (take (i + 1) ks)
picks_step start before after ks i d h b a =
    let len : length (take i ks) ≡ i = length-take-le i ks (omega arith) in
    let p : picks_text (take (i + 1) ks) ≡ picks_text (take i ks) ++ (separator i ++ decimal (get_or ks i d)) =
    ap picks_text (take_more ks i d h) ∙ picks_push (take i ks) (get_or ks i d)
    ∙ ap (λ n. picks_text (take i ks) ++ (separator n ++ decimal (get_or ks i d))) len in
    a ∙ ap (λ t. t ++ separator i ++ decimal (get_or ks i d)) b
    ∙ append_assoc (start ++ picks_text (take i ks)) (separator i) (decimal (get_or ks i d))
    ∙ append_assoc start (picks_text (take i ks)) (separator i ++ decimal (get_or ks i d))
    ∙ ap (λ t. start ++ t) (sym p)
