-- The two lines before the file of a proof are comments: what stands after them is read as it is without them.
use Rattle.std.proofs.Common.{ℕ, ◌≡◌, ◌<◌, ◌^◌, true, false, Bool, ◌==◌, not, List, [], ◌∷◌, ◌++◌, Some, refl, sym, subst, ◌∙◌, arith, codes, append_assoc, Contains}
use Rattle.std.specs.Prelude.{decimal}
use Rattle.std.proofs.lemmas.List.Elements.{All-contains}
use Rattle.zm_logic.proofs.Sames.{Contains-here, Contains-there}
use Rattle.lp_terms.specs.Names.{is_inside, all_bytes}
use Rattle.lp_terms.specs.Signature.{Entry}
use Rattle.dk_text.specs.Tokens.{Token, Skips, EntryTokens, one_blank, after_comment, starts_with}
use Rattle.dk_text.specs.Tokens as tokens
use Rattle.dk_text.specs.Names.{Reads}
use Rattle.dk_text.specs.Names as names
use Rattle.dk_text.specs.Text.{file_text}
use Rattle.dk_text.proofs.Bytes.{decimal_inside}
use Rattle.dk_text.specs.Laws.{ReadingIsUnique}
use Rattle.dk_printer.specs.Reading.{HasOneReading}
use Rattle.zm_logic.specs.Tree.{Problem}
use Rattle.branch.specs.Tableau.{Node, picks}
use Rattle.zenon_modulo.specs.Text.{picks_text, further_picks, proved_lines, proved_text}
use Rattle.zenon_modulo.specs.ProofFile.{proof_entries}
use Rattle.zenon_modulo.specs.Claims.{TakesFirst}

-- white space and comments in front of a text change nothing of its reading
skipped_tokens : {bytes after rest : List ℕ} {ts : List Token} → one_blank bytes ≡ Some after → EntryTokens after ts rest → EntryTokens bytes ts rest
skipped_tokens e (tokens.EntryTokens.last s a) = tokens.EntryTokens.last (tokens.Skips.over e s) a
skipped_tokens e (tokens.EntryTokens.more s a p ts) = tokens.EntryTokens.more (tokens.Skips.over e s) a p ts
skipped_tokens e (tokens.EntryTokens.cut s a) = tokens.EntryTokens.cut (tokens.Skips.over e s) a

skipped : {declared : List (List ℕ)} {bytes after : List ℕ} {es : List Entry} → one_blank bytes ≡ Some after → Reads declared after es → Reads declared bytes es
skipped e (names.Reads.end s) = names.Reads.end (tokens.Skips.over e s)
skipped e (names.Reads.entry ts i r rest) = names.Reads.entry (skipped_tokens e ts) i r rest

-- no byte of the text is a semicolon
abbrev is_other : ℕ → Bool
is_other b = not (b == 59)

inside_other : (b : ℕ) → is_inside b ≡ true → is_other b ≡ true
inside_other b e = grind (arith, e)

after_others : (xs ys : List ℕ) → all_bytes is_other xs ≡ true → after_comment (xs ++ ys) ≡ after_comment ys
after_others [] ys e = refl
after_others (x ∷ xs) ys e = go (x == 59) refl (after_others xs ys)
  where
    go : (b : Bool) → (x == 59) ≡ b → (all_bytes is_other xs ≡ true → after_comment (xs ++ ys) ≡ after_comment ys)
        → after_comment (x ∷ (xs ++ ys)) ≡ after_comment ys
    go true q more = grind (arith, e, q)
    go false q more = grind (arith, more, e, q)

others_append : (xs ys : List ℕ) → all_bytes is_other xs ≡ true → all_bytes is_other ys ≡ true → all_bytes is_other (xs ++ ys) ≡ true
others_append [] ys e h = h
others_append (x ∷ xs) ys e h = grind (arith, others_append xs ys, e, h)

decimal_other : (k : ℕ) → k < 2 ^ 64 → all_bytes is_other (decimal k) ≡ true
decimal_other k h = weaker (decimal k) (decimal_inside k h)
  where
    weaker : (xs : List ℕ) → all_bytes is_inside xs ≡ true → all_bytes is_other xs ≡ true
    weaker [] e = refl
    weaker (x ∷ xs) e = grind (arith, weaker xs, inside_other x, e)

-- each number is one of a machine
abbrev pub AreSmall : List ℕ → Type 0
AreSmall [] = Unit {0}
AreSmall (k ∷ ks) = (k < 2 ^ 64) × AreSmall ks

further_other : (ks : List ℕ) → AreSmall ks → all_bytes is_other (further_picks ks) ≡ true
further_other [] h = refl
further_other (k ∷ ks) h = others_append (codes "," ++ decimal k) (further_picks ks) (others_append (codes ",") (decimal k) refl (decimal_other k h.0)) (further_other ks h.1)

picks_other : (ks : List ℕ) → AreSmall ks → all_bytes is_other (picks_text ks) ≡ true
picks_other [] h = refl
picks_other (k ∷ ks) h = others_append (codes " " ++ decimal k) (further_picks ks) (others_append (codes " ") (decimal k) refl (decimal_other k h.0)) (further_other ks h.1)

-- the file's text after the two lines is read as it is alone
headed : (tree : Node) (file : List ℕ) (es : List Entry) → AreSmall (picks tree) → Reads [] file es → Reads [] (proved_lines tree ++ file) es
headed tree file es h r =
    let ks : List ℕ = picks tree in
    let tail : List ℕ = picks_text ks ++ (codes " ;)\n" ++ file) in
    let comment : one_blank (codes "(; picks:" ++ tail) ≡ Some (codes "\n" ++ file) = after_others (picks_text ks) (codes " ;)\n" ++ file) (picks_other ks h) in
    subst (λ x. Reads [] x es) (regrouped ks file)
    (skipped {bytes = codes "(; proved ;)\n(; picks:" ++ tail} {after = codes "\n(; picks:" ++ tail} refl
    (skipped {bytes = codes "\n(; picks:" ++ tail} {after = codes "(; picks:" ++ tail} refl
    (skipped comment (skipped {bytes = codes "\n" ++ file} {after = file} refl r))))
  where
    regrouped : (ks file : List ℕ) → codes "(; proved ;)\n(; picks:" ++ (picks_text ks ++ (codes " ;)\n" ++ file)) ≡ codes "(; proved ;)\n(; picks:" ++ picks_text ks ++ codes " ;)\n" ++ file
    regrouped ks file =
        sym (append_assoc (codes "(; proved ;)\n(; picks:") (picks_text ks) (codes " ;)\n" ++ file))
        ∙ sym (append_assoc (codes "(; proved ;)\n(; picks:" ++ picks_text ks) (codes " ;)\n") file)

first_small : (ks : List ℕ) → ((k : ℕ) → Contains ks k → k ≡ 0) → AreSmall ks
first_small [] h = tt
first_small (k ∷ ks) h =
    (subst (λ n. n < 2 ^ 64) (sym (h k (Contains-here k ks))) (omega arith), first_small ks (λ n i. h n (Contains-there k ks n i)))

-- what is written for a proof has the file's one reading, where the file's text has it
pub headed_reading : ReadingIsUnique → (p : Problem) (tree : Node) → TakesFirst tree → HasOneReading (file_text (proof_entries p tree)) (proof_entries p tree)
    → HasOneReading (proved_text p tree) (proof_entries p tree)
headed_reading unique p tree h r =
    let reads : Reads [] (proved_text p tree) (proof_entries p tree) =
    headed tree (file_text (proof_entries p tree)) (proof_entries p tree) (first_small (picks tree) (λ k i. All-contains (λ n. n ≡ 0) (picks tree) k h i)) r.reads in
    record { reads = reads; alone = λ ds d. unique (proved_text p tree) ds (proof_entries p tree) d reads }
