-- The slow reader refuses nothing that is in the grammar.
use Rattle.std.proofs.Common.{◌≡◌, ℕ, Bool, true, false, List, [], ◌∷◌, Option, Some, None, refl, sym, ◌∙◌}
use Rattle.std.proofs.lemmas.Bool.{both_ways}
use Rattle.dk_text.specs.Tokens.{Token, id, colon, becomes, arrow, fat_arrow, long_arrow, point, comma, close_round, close_square}
use Rattle.dk_text.specs.Grammar.{Raw, word, IsAtom, name, sort, bracketed, IsApplication, head, applied, IsTerm, application, named_product, plain_product, function}
use Rattle.dk_text.specs.Machine.{Frame, opened, named, to_codomain, to_body, Read, found, applied_to, Closed, closed, closing, after_bracket, whole, after_arrow, is_fresh, after_binder, read}

-- a term can end before these tokens
abbrev pub ends : List Token → Bool
ends (close_round ∷ tokens) = true
ends (becomes ∷ tokens) = true
ends (long_arrow ∷ tokens) = true
ends (point ∷ tokens) = true
ends (comma ∷ tokens) = true
ends (close_square ∷ tokens) = true
ends tokens = false

abbrev not_colon : List Token → Bool
not_colon (colon ∷ tokens) = false
not_colon tokens = true

abbrev ended : List Token → Closed → Read
ended (close_round ∷ tokens) c = after_bracket (read tokens) c
ended tokens c = whole tokens c

at_end : (rest : List Token) (frames : List Frame) (t : Raw) → ends rest ≡ true → read rest frames (Some t) ≡ ended rest (closing frames t)
at_end (close_round ∷ rest) frames t e = refl
at_end (becomes ∷ rest) frames t e = refl
at_end (long_arrow ∷ rest) frames t e = refl
at_end (point ∷ rest) frames t e = refl
at_end (comma ∷ rest) frames t e = refl
at_end (close_square ∷ rest) frames t e = refl
at_end [] frames t e = absurd (both_ways false refl e)
at_end (token ∷ rest) frames t e = absurd (both_ways false refl e)

ends_not_colon : (rest : List Token) → ends rest ≡ true → not_colon rest ≡ true
ends_not_colon (colon ∷ rest) e = absurd (both_ways false refl e)
ends_not_colon [] e = refl
ends_not_colon (token ∷ rest) e = refl

read_name : (x : List ℕ) (left : ℕ) (rest : List Token) (frames : List Frame) (before : Option Raw) → not_colon rest ≡ true →
    read (id x left ∷ rest) frames before ≡ read rest frames (Some (applied_to before (word x left)))
read_name x left [] frames None e = refl
read_name x left [] frames (Some f) e = refl
read_name x left (colon ∷ rest) frames before e = absurd (both_ways false refl e)
read_name x left (token ∷ rest) frames None e = refl
read_name x left (token ∷ rest) frames (Some f) e = refl

fresh_binder : (tokens : List Token) (frames : List Frame) (x : List ℕ) → is_fresh frames ≡ true → after_binder (read tokens) frames x ≡ read tokens (named x ∷ frames) None
fresh_binder tokens [] x e = refl
fresh_binder tokens (named y ∷ frames) x e = absurd (both_ways false refl e)
fresh_binder tokens (opened before ∷ frames) x e = refl
fresh_binder tokens (to_codomain y a ∷ frames) x e = refl
fresh_binder tokens (to_body y a ∷ frames) x e = refl

fresh_arrow : (tokens : List Token) (frames : List Frame) (a : Raw) → is_fresh frames ≡ true → after_arrow (read tokens) frames a ≡ read tokens (to_codomain None a ∷ frames) None
fresh_arrow tokens [] a e = refl
fresh_arrow tokens (named y ∷ frames) a e = absurd (both_ways false refl e)
fresh_arrow tokens (opened before ∷ frames) a e = refl
fresh_arrow tokens (to_codomain y c ∷ frames) a e = refl
fresh_arrow tokens (to_body y c ∷ frames) a e = refl

atom_begins : (tokens rest : List Token) (t : Raw) → IsAtom tokens rest t → not_colon tokens ≡ true
atom_begins tokens rest t name = refl
atom_begins tokens rest t sort = refl
atom_begins tokens rest t (bracketed d) = refl

mutual
  atom_complete : (tokens rest : List Token) (t : Raw) → IsAtom tokens rest t → (frames : List Frame) (before : Option Raw) → not_colon rest ≡ true →
      read tokens frames before ≡ read rest frames (Some (applied_to before t))
  atom_complete tokens rest t (name {x = x} {left = left}) frames before e = read_name x left rest frames before e
  atom_complete tokens rest t sort frames before e = refl
  atom_complete tokens rest t (bracketed {tokens = inner} {t = s} d) frames before e = term_complete inner (close_round ∷ rest) s d (opened before ∷ frames) refl refl

  application_complete : (tokens rest : List Token) (t : Raw) → IsApplication tokens rest t → (frames : List Frame) → not_colon rest ≡ true →
      read tokens frames None ≡ read rest frames (Some t)
  application_complete tokens rest t (head d) frames e = atom_complete tokens rest t d frames None e
  application_complete tokens rest t (applied {middle = middle} {f = f} {a = a} d b) frames e =
      application_complete tokens middle f d frames (atom_begins middle rest a b) ∙ atom_complete middle rest a b frames (Some f) e

  pub term_complete : (tokens rest : List Token) (t : Raw) → IsTerm tokens rest t → (frames : List Frame) → is_fresh frames ≡ true → ends rest ≡ true →
      read tokens frames None ≡ ended rest (closing frames t)
  term_complete tokens rest t (application d) frames fresh e = application_complete tokens rest t d frames (ends_not_colon rest e) ∙ at_end rest frames t e
  term_complete tokens rest t (named_product {tokens = inner} {middle = middle} {x = x} {a = a} {b = b} d c) frames fresh e =
      fresh_binder inner frames x fresh ∙ application_complete inner (arrow ∷ middle) a d (named x ∷ frames) refl
      ∙ term_complete middle rest b c (to_codomain (Some x) a ∷ frames) refl e
  term_complete tokens rest t (plain_product {middle = middle} {a = a} {b = b} d c) frames fresh e =
      application_complete tokens (arrow ∷ middle) a d frames refl ∙ fresh_arrow middle frames a fresh
      ∙ term_complete middle rest b c (to_codomain None a ∷ frames) refl e
  term_complete tokens rest t (function {tokens = inner} {middle = middle} {x = x} {a = a} {b = b} d c) frames fresh e =
      fresh_binder inner frames x fresh ∙ application_complete inner (fat_arrow ∷ middle) a d (named x ∷ frames) refl
      ∙ term_complete middle rest b c (to_body x a ∷ frames) refl e

-- what can stand behind a term of an entry
abbrev pub ends_part : List Token → Bool
ends_part (close_round ∷ tokens) = false
ends_part tokens = ends tokens

whole_part : (rest : List Token) (t : Raw) → ends_part rest ≡ true → (ends rest ≡ true) × (ended rest (closed [] t) ≡ found t rest)
whole_part [] t e = absurd (both_ways false refl e)
whole_part (close_round ∷ rest) t e = absurd (both_ways false refl e)
whole_part (token ∷ rest) t e = (e, refl)

-- a term of an entry is read
pub part_complete : (tokens rest : List Token) (t : Raw) → IsTerm tokens rest t → ends_part rest ≡ true → read tokens [] None ≡ found t rest
part_complete tokens rest t d e = let h = whole_part rest t e in term_complete tokens rest t d [] refl h.0 ∙ h.1

same_term : (t s : Raw) (xs ys : List Token) → found t xs ≡ found s ys → (t ≡ s) × (xs ≡ ys)
same_term t s xs ys e = (cc, cc)

-- a term of an entry has one reading
pub part_unique : (tokens rest other : List Token) (t s : Raw) → IsTerm tokens rest t → ends_part rest ≡ true → IsTerm tokens other s → ends_part other ≡ true → (t ≡ s) × (rest ≡ other)
part_unique tokens rest other t s d e c f = same_term t s rest other (sym (part_complete tokens rest t d e) ∙ part_complete tokens other s c f)
