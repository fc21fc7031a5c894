-- What the slow reader reads is in the grammar.
use Rattle.std.proofs.Common.{◌≡◌, ℕ, List, [], ◌∷◌, Option, Some, None, subst}
use Rattle.dk_text.specs.Tokens.{Token, id, type_word, colon, becomes, arrow, fat_arrow, long_arrow, point, comma, open_round, close_round, close_square}
use Rattle.dk_text.specs.Grammar.{Raw, word, universe, bracket, apply, product, abstraction, IsAtom, name, sort, bracketed, IsApplication, head, applied, IsTerm, application, named_product, plain_product, function}
use Rattle.dk_text.specs.Machine.{Frame, opened, named, to_codomain, to_body, refused, found, applied_to, Closed, closed, closing, after_bracket, whole, after_arrow, after_fat_arrow, after_binder, read}

-- Between the first token and this place stand these frames, and a term begins here; behind a binder's name, its domain.
mutual
  data Awaits : List Token → List Token → List Frame → Type 0 where
    start : {all : List Token} → Awaits all all []
    in_bracket : {all here : List Token} {frames : List Frame} {before : Option Raw} → Holds all (open_round ∷ here) frames before → Awaits all here (opened before ∷ frames)
    in_domain : {all here : List Token} {frames : List Frame} {x : List ℕ} {left : ℕ} → Awaits all (id x left ∷ colon ∷ here) frames → Awaits all here (named x ∷ frames)
    in_named_codomain : {all before here : List Token} {frames : List Frame} {x : List ℕ} {left : ℕ} {a : Raw} → Awaits all (id x left ∷ colon ∷ before) frames →
        IsApplication before (arrow ∷ here) a → Awaits all here (to_codomain (Some x) a ∷ frames)
    in_codomain : {all before here : List Token} {frames : List Frame} {a : Raw} → Awaits all before frames → IsApplication before (arrow ∷ here) a →
        Awaits all here (to_codomain None a ∷ frames)
    in_body : {all before here : List Token} {frames : List Frame} {x : List ℕ} {left : ℕ} {a : Raw} → Awaits all (id x left ∷ colon ∷ before) frames →
        IsApplication before (fat_arrow ∷ here) a → Awaits all here (to_body x a ∷ frames)

  -- the same, where a head may have been read
  data Holds : List Token → List Token → List Frame → Option Raw → Type 0 where
    nothing_read : {all here : List Token} {frames : List Frame} → Awaits all here frames → Holds all here frames None
    head_read : {all before here : List Token} {frames : List Frame} {f : Raw} → Awaits all before frames → IsApplication before here f → Holds all here frames (Some f)

data Ended : List Token → List Token → Closed → Type 0 where
  ended : {all before rest : List Token} {frames : List Frame} {t : Raw} → Awaits all before frames → IsTerm before rest t → Ended all rest (closed frames t)

extended : (all tokens rest : List Token) (frames : List Frame) (before : Option Raw) (u : Raw) → Holds all tokens frames before → IsAtom tokens rest u → Holds all rest frames (Some (applied_to before u))
extended all tokens rest frames None u (nothing_read a) d = head_read a (head d)
extended all tokens rest frames (Some f) u (head_read a b) d = head_read a (applied b d)

closing_sound : (frames : List Frame) (all before rest : List Token) (t : Raw) → Awaits all before frames → IsTerm before rest t → Ended all rest (closing frames t)
closing_sound [] all before rest t a d = ended a d
closing_sound (opened h ∷ frames) all before rest t a d = ended a d
closing_sound (named x ∷ frames) all before rest t a d = ended a d
closing_sound (to_codomain (Some x) c ∷ frames) all before rest t (in_named_codomain {before = first} {left = left} a p) d =
    closing_sound frames all (id x left ∷ colon ∷ first) rest (product (Some x) c t) a (named_product p d)
closing_sound (to_codomain None c ∷ frames) all before rest t (in_codomain {before = first} a p) d =
    closing_sound frames all first rest (product None c t) a (plain_product p d)
closing_sound (to_body x c ∷ frames) all before rest t (in_body {before = first} {left = left} a p) d =
    closing_sound frames all (id x left ∷ colon ∷ first) rest (abstraction x c t) a (function p d)

refused_found : (t : Raw) (rest : List Token) → refused ≡ found t rest → ⊥
refused_found t rest e = cc

never : (A : Type 0) (t : Raw) (rest : List Token) → refused ≡ found t rest → A
never A t rest e = absurd (refused_found t rest e)

same_found : (t s : Raw) (xs ys : List Token) → found t xs ≡ found s ys → (t ≡ s) × (xs ≡ ys)
same_found t s xs ys e = (cc, cc)

-- a reader that is sound from here on
record Sound (all tokens : List Token) (t : Raw) (rest : List Token) : Type 0 where
  reads : (frames : List Frame) (before : Option Raw) → Holds all tokens frames before → read tokens frames before ≡ found t rest → IsTerm all rest t

bracket_sound : (all tokens rest : List Token) (t : Raw) → Sound all tokens t rest → (c : Closed) → Ended all (close_round ∷ tokens) c → after_bracket (read tokens) c ≡ found t rest → IsTerm all rest t
bracket_sound all tokens rest t s (closed [] u) d e = never (IsTerm all rest t) t rest e
bracket_sound all tokens rest t s (closed (opened before ∷ frames) u) (ended {before = inner} (in_bracket h) d) e =
    s.reads frames (Some (applied_to before (bracket u))) (extended all (open_round ∷ inner) tokens frames before (bracket u) h (bracketed d)) e
bracket_sound all tokens rest t s (closed (named x ∷ frames) u) d e = never (IsTerm all rest t) t rest e
bracket_sound all tokens rest t s (closed (to_codomain x a ∷ frames) u) d e = never (IsTerm all rest t) t rest e
bracket_sound all tokens rest t s (closed (to_body x a ∷ frames) u) d e = never (IsTerm all rest t) t rest e

whole_sound : (all tokens rest : List Token) (t : Raw) (c : Closed) → Ended all tokens c → whole tokens c ≡ found t rest → IsTerm all rest t
whole_sound all tokens rest t (closed [] u) (ended start d) e =
    let same = same_found u t tokens rest e in
    subst (λ (r : List Token). IsTerm all r t) same.1 (subst (λ (v : Raw). IsTerm all tokens v) same.0 d)
whole_sound all tokens rest t (closed (frame ∷ frames) u) d e = never (IsTerm all rest t) t rest e

arrow_sound : (all before tokens rest : List Token) (t : Raw) → Sound all tokens t rest → (frames : List Frame) (a : Raw) → Awaits all before frames → IsApplication before (arrow ∷ tokens) a →
    after_arrow (read tokens) frames a ≡ found t rest → IsTerm all rest t
arrow_sound all before tokens rest t s (named x ∷ frames) a (in_domain w) d e = s.reads (to_codomain (Some x) a ∷ frames) None (nothing_read (in_named_codomain w d)) e
arrow_sound all before tokens rest t s [] a w d e = s.reads (to_codomain None a ∷ []) None (nothing_read (in_codomain w d)) e
arrow_sound all before tokens rest t s (opened h ∷ frames) a w d e = s.reads (to_codomain None a ∷ opened h ∷ frames) None (nothing_read (in_codomain w d)) e
arrow_sound all before tokens rest t s (to_codomain x c ∷ frames) a w d e = s.reads (to_codomain None a ∷ to_codomain x c ∷ frames) None (nothing_read (in_codomain w d)) e
arrow_sound all before tokens rest t s (to_body x c ∷ frames) a w d e = s.reads (to_codomain None a ∷ to_body x c ∷ frames) None (nothing_read (in_codomain w d)) e

fat_arrow_sound : (all before tokens rest : List Token) (t : Raw) → Sound all tokens t rest → (frames : List Frame) (a : Raw) → Awaits all before frames → IsApplication before (fat_arrow ∷ tokens) a →
    after_fat_arrow (read tokens) frames a ≡ found t rest → IsTerm all rest t
fat_arrow_sound all before tokens rest t s (named x ∷ frames) a (in_domain w) d e = s.reads (to_body x a ∷ frames) None (nothing_read (in_body w d)) e
fat_arrow_sound all before tokens rest t s [] a w d e = never (IsTerm all rest t) t rest e
fat_arrow_sound all before tokens rest t s (opened h ∷ frames) a w d e = never (IsTerm all rest t) t rest e
fat_arrow_sound all before tokens rest t s (to_codomain x c ∷ frames) a w d e = never (IsTerm all rest t) t rest e
fat_arrow_sound all before tokens rest t s (to_body x c ∷ frames) a w d e = never (IsTerm all rest t) t rest e

binder_sound : (all tokens rest : List Token) (x : List ℕ) (left : ℕ) (t : Raw) → Sound all tokens t rest → (frames : List Frame) → Awaits all (id x left ∷ colon ∷ tokens) frames →
    after_binder (read tokens) frames x ≡ found t rest → IsTerm all rest t
binder_sound all tokens rest x left t s (named y ∷ frames) w e = never (IsTerm all rest t) t rest e
binder_sound all tokens rest x left t s [] w e = s.reads (named x ∷ []) None (nothing_read (in_domain w)) e
binder_sound all tokens rest x left t s (opened h ∷ frames) w e = s.reads (named x ∷ opened h ∷ frames) None (nothing_read (in_domain w)) e
binder_sound all tokens rest x left t s (to_codomain y c ∷ frames) w e = s.reads (named x ∷ to_codomain y c ∷ frames) None (nothing_read (in_domain w)) e
binder_sound all tokens rest x left t s (to_body y c ∷ frames) w e = s.reads (named x ∷ to_body y c ∷ frames) None (nothing_read (in_domain w)) e

-- what is read from here on is a term from the first token on
read_sound : (tokens all rest : List Token) (t : Raw) (frames : List Frame) (before : Option Raw) → Holds all tokens frames before → read tokens frames before ≡ found t rest → IsTerm all rest t
read_sound [] all rest t frames before h e = never (IsTerm all rest t) t rest e
read_sound (id x left ∷ []) all rest t frames None h e = never (IsTerm all rest t) t rest e
read_sound (id x left ∷ []) all rest t frames (Some f) h e = never (IsTerm all rest t) t rest e
read_sound (id x left ∷ colon ∷ tokens) all rest t frames None (nothing_read w) e =
    binder_sound all tokens rest x left t (record { reads = λ fs b k d. read_sound tokens all rest t fs b k d }) frames w e
read_sound (id x left ∷ colon ∷ tokens) all rest t frames (Some f) h e = never (IsTerm all rest t) t rest e
read_sound (id x left ∷ token ∷ tokens) all rest t frames None h e =
    read_sound (token ∷ tokens) all rest t frames (Some (word x left)) (extended all (id x left ∷ token ∷ tokens) (token ∷ tokens) frames None (word x left) h name) e
read_sound (id x left ∷ token ∷ tokens) all rest t frames (Some f) h e =
    read_sound (token ∷ tokens) all rest t frames (Some (apply f (word x left))) (extended all (id x left ∷ token ∷ tokens) (token ∷ tokens) frames (Some f) (word x left) h name) e
read_sound (type_word ∷ tokens) all rest t frames before h e =
    read_sound tokens all rest t frames (Some (applied_to before universe)) (extended all (type_word ∷ tokens) tokens frames before universe h sort) e
read_sound (open_round ∷ tokens) all rest t frames before h e = read_sound tokens all rest t (opened before ∷ frames) None (nothing_read (in_bracket h)) e
read_sound (close_round ∷ tokens) all rest t frames (Some u) (head_read {before = first} w d) e =
    bracket_sound all tokens rest t (record { reads = λ fs b k c. read_sound tokens all rest t fs b k c }) (closing frames u) (closing_sound frames all first (close_round ∷ tokens) u w (application d)) e
read_sound (arrow ∷ tokens) all rest t frames (Some u) (head_read {before = first} w d) e =
    arrow_sound all first tokens rest t (record { reads = λ fs b k c. read_sound tokens all rest t fs b k c }) frames u w d e
read_sound (fat_arrow ∷ tokens) all rest t frames (Some u) (head_read {before = first} w d) e =
    fat_arrow_sound all first tokens rest t (record { reads = λ fs b k c. read_sound tokens all rest t fs b k c }) frames u w d e
read_sound (becomes ∷ tokens) all rest t frames (Some u) (head_read {before = first} w d) e =
    whole_sound all (becomes ∷ tokens) rest t (closing frames u) (closing_sound frames all first (becomes ∷ tokens) u w (application d)) e
read_sound (long_arrow ∷ tokens) all rest t frames (Some u) (head_read {before = first} w d) e =
    whole_sound all (long_arrow ∷ tokens) rest t (closing frames u) (closing_sound frames all first (long_arrow ∷ tokens) u w (application d)) e
read_sound (point ∷ tokens) all rest t frames (Some u) (head_read {before = first} w d) e =
    whole_sound all (point ∷ tokens) rest t (closing frames u) (closing_sound frames all first (point ∷ tokens) u w (application d)) e
read_sound (comma ∷ tokens) all rest t frames (Some u) (head_read {before = first} w d) e =
    whole_sound all (comma ∷ tokens) rest t (closing frames u) (closing_sound frames all first (comma ∷ tokens) u w (application d)) e
read_sound (close_square ∷ tokens) all rest t frames (Some u) (head_read {before = first} w d) e =
    whole_sound all (close_square ∷ tokens) rest t (closing frames u) (closing_sound frames all first (close_square ∷ tokens) u w (application d)) e
read_sound (token ∷ tokens) all rest t frames before h e = never (IsTerm all rest t) t rest e

pub part_sound : (tokens rest : List Token) (t : Raw) → read tokens [] None ≡ found t rest → IsTerm tokens rest t
part_sound tokens rest t e = read_sound tokens tokens rest t [] None (nothing_read start) e
