-- The reader over pieces reads a term of the grammar, and refuses only where there is none.
use Rattle.std.proofs.Common.{◌≡◌, ℕ, ◌<◌, true, false, List, [], ◌∷◌, length, None, refl, sym, ◌∙◌, ap, subst, arith}
use Rattle.std.proofs.lemmas.Bool.{both_ways}
use Rattle.dk_text.specs.Tokens.{Token, becomes, arrow, fat_arrow, long_arrow, point, comma, close_round, close_square}
use Rattle.dk_text.specs.Grammar.{Raw, IsAtom, name, sort, bracketed, IsApplication, head, applied, IsTerm, application, named_product, plain_product, function}
use Rattle.dk_text.specs.Names.{Scope}
use Rattle.dk_text.specs.Machine as raw
use Rattle.dk_text.proofs.Sound.{part_sound}
use Rattle.dk_text.proofs.Complete.{ends_part, part_complete}
use Rattle.dk_reader.specs.Pieces.{Piece, piece_of}
use Rattle.dk_reader.specs.Spelled.{ends_term, SpellsTerm, SpellsNoTerm}
use Rattle.dk_reader.specs.Machine.{refused, found, read, fresh}
use Rattle.dk_reader.proofs.Simulation.{read_of, read_pieces}

-- What ends a term

pub ends_part_of : (rest : List Token) → ends_term rest ≡ true → ends_part rest ≡ true
ends_part_of (becomes ∷ rest) e = refl
ends_part_of (long_arrow ∷ rest) e = refl
ends_part_of (point ∷ rest) e = refl
ends_part_of (comma ∷ rest) e = refl
ends_part_of (close_square ∷ rest) e = refl
ends_part_of [] e = absurd (both_ways false refl e)
ends_part_of (token ∷ rest) e = absurd (both_ways false refl e)

-- What is read

refused_found : (p : Piece) (rest : List Token) (sc : Scope) → refused ≡ found p rest sc → ⊥
refused_found p rest sc e = cc

same_found : (p q : Piece) (xs ys : List Token) (a b : Scope) → found p xs a ≡ found q ys b → (p ≡ q) × (xs ≡ ys) × (a ≡ b)
same_found p q xs ys a b e = (cc, cc, cc)

mutual
  atom_shrinks : (tokens rest : List Token) (t : Raw) → IsAtom tokens rest t → length rest < length tokens
  atom_shrinks tokens rest t name = omega arith
  atom_shrinks tokens rest t sort = omega arith
  atom_shrinks tokens rest t (bracketed {tokens = inner} {t = s} d) = let h = term_shrinks inner (close_round ∷ rest) s d in omega arith

  application_shrinks : (tokens rest : List Token) (t : Raw) → IsApplication tokens rest t → length rest < length tokens
  application_shrinks tokens rest t (head d) = atom_shrinks tokens rest t d
  application_shrinks tokens rest t (applied {middle = middle} {f = f} {a = a} d b) =
      let h = application_shrinks tokens middle f d in let k = atom_shrinks middle rest a b in omega arith

  pub term_shrinks : (tokens rest : List Token) (t : Raw) → IsTerm tokens rest t → length rest < length tokens
  term_shrinks tokens rest t (application d) = application_shrinks tokens rest t d
  term_shrinks tokens rest t (named_product {tokens = inner} {middle = middle} {a = a} {b = b} d c) =
      let h = application_shrinks inner (arrow ∷ middle) a d in let k = term_shrinks middle rest b c in omega arith
  term_shrinks tokens rest t (plain_product {middle = middle} {a = a} {b = b} d c) =
      let h = application_shrinks tokens (arrow ∷ middle) a d in let k = term_shrinks middle rest b c in omega arith
  term_shrinks tokens rest t (function {tokens = inner} {middle = middle} {a = a} {b = b} d c) =
      let h = application_shrinks inner (fat_arrow ∷ middle) a d in let k = term_shrinks middle rest b c in omega arith

-- the term that is read, the scope that is left, and that tokens were read
pub record IsRead (declared : List (List ℕ)) (scope : Scope) (tokens rest : List Token) (piece : Piece) (left : Scope) : Type 0 where
  pub spells : SpellsTerm declared scope tokens rest piece
  pub scope_kept : left ≡ scope
  pub shrinks : length rest < length tokens

found_in : (declared : List (List ℕ)) (scope : Scope) (tokens rest : List Token) (p : Piece) (left : Scope) (r : raw.Read) → raw.read tokens [] None ≡ r →
    read_of declared scope r ≡ found p rest left → ends_term rest ≡ true → IsRead declared scope tokens rest p left
found_in declared scope tokens rest p left raw.refused f e ends = absurd (refused_found p rest left e)
found_in declared scope tokens rest p left (raw.found t behind_it) f e ends =
    let same = same_found (piece_of declared scope t) p behind_it rest scope left e in
    let spelled : IsTerm tokens rest t = subst (λ (r : List Token). IsTerm tokens r t) same.1 (part_sound tokens behind_it t f) in
    record {
      spells = record { raw = t; spelled = spelled; ended = ends; known = sym same.0 };
      scope_kept = sym same.2;
      shrinks = term_shrinks tokens rest t spelled;
    }

-- where a piece is read
pub read_found : (declared : List (List ℕ)) (scope : Scope) (tokens rest : List Token) (p : Piece) (left : Scope) → read declared tokens (fresh scope) ≡ found p rest left →
    ends_term rest ≡ true → IsRead declared scope tokens rest p left
read_found declared scope tokens rest p left e ends =
    found_in declared scope tokens rest p left (raw.read tokens [] None) refl (sym (read_pieces declared scope tokens) ∙ e) ends

-- where none is read
pub read_refused : (declared : List (List ℕ)) (scope : Scope) (tokens : List Token) → read declared tokens (fresh scope) ≡ refused → SpellsNoTerm tokens
read_refused declared scope tokens e rest t d f =
    let there : raw.read tokens [] None ≡ raw.found t rest = part_complete tokens rest t d (ends_part_of rest f) in
    refused_found (piece_of declared scope t) rest scope (sym e ∙ read_pieces declared scope tokens ∙ ap (read_of declared scope) there)
