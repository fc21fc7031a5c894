-- Tokens spell at most one entry, and a text has at most one list of entries.
use Rattle.std.proofs.Common.{◌≡◌, ℕ, true, false, List, [], ◌∷◌, Option, Some, None, refl, sym, ◌∙◌, ap, subst}
use Rattle.std.proofs.lemmas.Bool.{both_ways}
use Rattle.lp_terms.specs.Signature.{Entry}
use Rattle.lp_terms.specs.File.{declared_after}
use Rattle.dk_text.specs.Tokens.{Token, Front, nothing, found, becomes, long_arrow, point, comma, close_square, is_point, token_at, Skips, here, over, EntryTokens, last, more, cut}
use Rattle.dk_text.specs.Grammar.{Raw, IsTerm, Binding, binding, IsContext, single, several, RawEntry, declaration, definition, rewriting, IsEntry, declared, definable, defined, closed_rule, open_rule}
use Rattle.dk_text.specs.Names.{Resolved, known, resolved_entry, Reads, end, entry}
use Rattle.dk_text.proofs.Complete.{part_unique}

-- Bytes

none_some : (x : List ℕ) → ◌≡◌ {A = Option (List ℕ)} None (Some x) → ⊥
none_some x e = cc

some_same : (x y : List ℕ) → ◌≡◌ {A = Option (List ℕ)} (Some x) (Some y) → x ≡ y
some_same x y e = cc

pub skips_same : (bytes a b : List ℕ) → Skips bytes a → Skips bytes b → a ≡ b
skips_same bytes a b (here e) (here f) = refl
skips_same bytes a b (here e) (over {after = y} f s) = absurd (none_some y (sym e ∙ f))
skips_same bytes a b (over {after = x} e r) (here f) = absurd (none_some x (sym f ∙ e))
skips_same bytes a b (over {after = x} e r) (over {after = y} f s) =
    skips_same x a b r (subst (λ (z : List ℕ). Skips z b) (some_same y x (sym f ∙ e)) s)

front_same : (bytes a b : List ℕ) (f g : Front) → Skips bytes a → token_at a ≡ f → Skips bytes b → token_at b ≡ g → f ≡ g
front_same bytes a b f g r e s h = sym e ∙ ap token_at (skips_same bytes a b r s) ∙ h

found_same : (t u : Token) (xs ys : List ℕ) → found t xs ≡ found u ys → (t ≡ u) × (xs ≡ ys)
found_same t u xs ys e = (cc, cc)

found_nothing : (t : Token) (xs : List ℕ) → found t xs ≡ nothing → ⊥
found_nothing t xs e = cc

other_token : (t : Token) → is_point t ≡ false → point ≡ t → ⊥
other_token t e same = both_ways (is_point t) e (sym (ap is_point same))

-- the tokens of an entry are determined
pub tokens_same : (bytes : List ℕ) (ts us : List Token) (to other : List ℕ) → EntryTokens bytes ts to → EntryTokens bytes us other → (ts ≡ us) × (to ≡ other)
tokens_same bytes ts us to other (last {at = a} r e) (last {at = b} s f) =
    (refl, (found_same point point to other (front_same bytes a b (found point to) (found point other) r e s f)).1)
tokens_same bytes ts us to other (last {at = a} r e) (more {at = b} {rest = ys} {token = u} s f p d) =
    absurd (other_token u p (found_same point u to ys (front_same bytes a b (found point to) (found u ys) r e s f)).0)
tokens_same bytes ts us to other (last {at = a} r e) (cut {at = b} s f) = absurd (found_nothing point to (front_same bytes a b (found point to) nothing r e s f))
tokens_same bytes ts us to other (more {at = a} {rest = xs} {token = t} r e p d) (last {at = b} s f) =
    absurd (other_token t p (found_same point t other xs (front_same bytes b a (found point other) (found t xs) s f r e)).0)
tokens_same bytes ts us to other (more {at = a} {rest = xs} {token = t} {tokens = tts} r e p d) (more {at = b} {rest = ys} {token = u} {tokens = uus} s f q c) =
    let same = found_same t u xs ys (front_same bytes a b (found t xs) (found u ys) r e s f) in
    let rest = tokens_same xs tts uus to other d (subst (λ (z : List ℕ). EntryTokens z uus other) (sym same.1) c) in
    (ap (λ z. z ∷ tts) same.0 ∙ ap (λ z. u ∷ z) rest.0, rest.1)
tokens_same bytes ts us to other (more {at = a} {rest = xs} {token = t} r e p d) (cut {at = b} s f) =
    absurd (found_nothing t xs (front_same bytes a b (found t xs) nothing r e s f))
tokens_same bytes ts us to other (cut {at = a} r e) (last {at = b} s f) = absurd (found_nothing point other (front_same bytes b a (found point other) nothing s f r e))
tokens_same bytes ts us to other (cut {at = a} r e) (more {at = b} {rest = ys} {token = u} s f p d) =
    absurd (found_nothing u ys (front_same bytes b a (found u ys) nothing s f r e))
tokens_same bytes ts us to other (cut {at = a} r e) (cut {at = b} s f) = (refl, skips_same bytes to other r s)

-- Entries

square_comma : (xs ys : List Token) → close_square ∷ xs ≡ comma ∷ ys → ⊥
square_comma xs ys e = cc

becomes_point : (xs ys : List Token) → becomes ∷ xs ≡ point ∷ ys → ⊥
becomes_point xs ys e = cc

tail_same : (t : Token) (xs ys : List Token) → t ∷ xs ≡ t ∷ ys → xs ≡ ys
tail_same t xs ys e = cc

context_unique : (tokens rest other : List Token) (bs cs : List Binding) → IsContext tokens rest bs → IsContext tokens other cs → (bs ≡ cs) × (rest ≡ other)
context_unique tokens rest other bs cs (single {tokens = inner} {x = x} {a = a} d) (single {a = b} e) =
    let same = part_unique inner (close_square ∷ rest) (close_square ∷ other) a b d refl e refl in
    (ap (λ t. binding x t ∷ []) same.0, tail_same close_square rest other same.1)
context_unique tokens rest other bs cs (single {tokens = inner} {a = a} d) (several {middle = middle} {a = b} e others) =
    absurd (square_comma rest middle (part_unique inner (close_square ∷ rest) (comma ∷ middle) a b d refl e refl).1)
context_unique tokens rest other bs cs (several {tokens = inner} {middle = middle} {a = a} d others) (single {a = b} e) =
    absurd (square_comma other middle (part_unique inner (close_square ∷ other) (comma ∷ middle) b a e refl d refl).1)
context_unique tokens rest other bs cs (several {tokens = inner} {middle = middle} {x = x} {a = a} {bs = as_} d more_) (several {middle = second} {a = b} {bs = others} e again) =
    let same = part_unique inner (comma ∷ middle) (comma ∷ second) a b d refl e refl in
    let tails = context_unique middle rest other as_ others more_ (subst (λ (z : List Token). IsContext z other others) (sym (tail_same comma middle second same.1)) again) in
    (ap (λ t. binding x t ∷ as_) same.0 ∙ ap (λ z. binding x b ∷ z) tails.0, tails.1)

sides_unique : (tokens middle second : List Token) (a b c d : Raw) → IsTerm tokens (long_arrow ∷ middle) a → IsTerm middle (point ∷ []) b → IsTerm tokens (long_arrow ∷ second) c → IsTerm second (point ∷ []) d →
    (a ≡ c) × (b ≡ d)
sides_unique tokens middle second a b c d p q r s =
    let same = part_unique tokens (long_arrow ∷ middle) (long_arrow ∷ second) a c p refl r refl in
    let there : IsTerm middle (point ∷ []) d = subst (λ (z : List Token). IsTerm z (point ∷ []) d) (sym (tail_same long_arrow middle second same.1)) s in
    (same.0, (part_unique middle (point ∷ []) (point ∷ []) b d q refl there refl).0)

pub entry_unique : (tokens : List Token) (r s : RawEntry) → IsEntry tokens r → IsEntry tokens s → r ≡ s
entry_unique tokens r s (declared {tokens = inner} {x = x} {a = a} d) (declared {a = b} e) =
    ap (λ t. declaration x false t) (part_unique inner (point ∷ []) (point ∷ []) a b d refl e refl).0
entry_unique tokens r s (definable {tokens = inner} {x = x} {a = a} d) (definable {a = b} e) =
    ap (λ t. declaration x true t) (part_unique inner (point ∷ []) (point ∷ []) a b d refl e refl).0
entry_unique tokens r s (definable {tokens = inner} {a = a} d) (defined {middle = middle} {a = b} e f) =
    absurd (becomes_point middle [] (part_unique inner (becomes ∷ middle) (point ∷ []) b a e refl d refl).1)
entry_unique tokens r s (defined {tokens = inner} {middle = middle} {a = a} d f) (definable {a = b} e) =
    absurd (becomes_point middle [] (part_unique inner (becomes ∷ middle) (point ∷ []) a b d refl e refl).1)
entry_unique tokens r s (defined {tokens = inner} {middle = middle} {x = x} {a = a} {b = b} d e) (defined {middle = second} {a = c} {b = t} f g) =
    let same = part_unique inner (becomes ∷ middle) (becomes ∷ second) a c d refl f refl in
    let there : IsTerm middle (point ∷ []) t = subst (λ (z : List Token). IsTerm z (point ∷ []) t) (sym (tail_same becomes middle second same.1)) g in
    ap (λ y. definition x y b) same.0 ∙ ap (λ y. definition x c y) (part_unique middle (point ∷ []) (point ∷ []) b t e refl there refl).0
entry_unique tokens r s (closed_rule {tokens = inner} {middle = middle} {a = a} {b = b} d e) (closed_rule {middle = second} {a = c} {b = t} f g) =
    let same = sides_unique inner middle second a b c t d e f g in
    ap (λ y. rewriting [] y b) same.0 ∙ ap (λ y. rewriting [] c y) same.1
entry_unique tokens r s (closed_rule d e) (open_rule c f g) = elim c [ ]
entry_unique tokens r s (open_rule c f g) (closed_rule d e) = elim c [ ]
entry_unique tokens r s (open_rule {tokens = inner} {left_side = left} {right_side = middle} {bs = bs} {a = a} {b = b} p d e) (open_rule {left_side = other} {right_side = second} {bs = cs} {a = c} {b = t} q f g) =
    let contexts = context_unique inner left other bs cs p q in
    let there : IsTerm left (long_arrow ∷ second) c = subst (λ (z : List Token). IsTerm z (long_arrow ∷ second) c) (sym contexts.1) f in
    let same = sides_unique left middle second a b c t d e there g in
    ap (λ z. rewriting z a b) contexts.0 ∙ ap (λ y. rewriting cs y b) same.0 ∙ ap (λ y. rewriting cs c y) same.1

-- Texts

known_same : (d e : Entry) → ◌≡◌ {A = Resolved Entry} (known d) (known e) → d ≡ e
known_same d e h = cc

no_entry : (bytes rest : List ℕ) (tokens : List Token) (raw : RawEntry) → Skips bytes [] → EntryTokens bytes tokens rest → IsEntry tokens raw → ⊥
no_entry bytes rest tokens raw s l p =
    let same = tokens_same bytes [] tokens [] rest (cut s refl) l in
    let there : IsEntry [] raw = subst (λ (z : List Token). IsEntry z raw) (sym same.0) p in elim there [ ]

-- a text has at most one reading
pub reads_unique : (names : List (List ℕ)) (bytes : List ℕ) (ds es : List Entry) → Reads names bytes ds → Reads names bytes es → ds ≡ es
reads_unique names bytes ds es (end s) (end r) = refl
reads_unique names bytes ds es (end s) (entry {rest = rest} {tokens = tokens} {raw = raw} l p r more_) = absurd (no_entry bytes rest tokens raw s l p)
reads_unique names bytes ds es (entry {rest = rest} {tokens = tokens} {raw = raw} l p r more_) (end s) = absurd (no_entry bytes rest tokens raw s l p)
reads_unique names bytes ds es (entry {rest = rest} {tokens = tokens} {raw = raw} {e = d} {es = dd} l p r m) (entry {rest = other} {tokens = us} {raw = war} {e = e} {es = ee} k q s n) =
    let same = tokens_same bytes tokens us rest other l k in
    let there : IsEntry tokens war = subst (λ (z : List Token). IsEntry z war) (sym same.0) q in
    let raws : raw ≡ war = entry_unique tokens raw war p there in
    let entries : d ≡ e = known_same d e (sym r ∙ ap (resolved_entry names) raws ∙ s) in
    let tails : Reads (declared_after names d) rest ee = subst (λ (z : List ℕ). Reads (declared_after names d) z ee) (sym same.1) (subst (λ (z : Entry). Reads (declared_after names z) other ee) (sym entries) n) in
    ap (λ z. z ∷ dd) entries ∙ ap (λ z. e ∷ z) (reads_unique (declared_after names d) rest dd ee m tails)
