-- What is printed of a file has that file as its one reading.
use Rattle.std.proofs.Common.{◌≡◌, ℕ, List, [], refl, subst, arith}
use Rattle.std.proofs.lemmas.Bool.{both_ways}
use Rattle.lp_terms.specs.Signature.{Entry}
use Rattle.lp_terms.specs.Names.{is_among}
use Rattle.lp_terms.specs.File.{IsFile}
use Rattle.dk_text.specs.Names.{Reads}
use Rattle.dk_text.specs.Text.{file_text}
use Rattle.dk_text.proofs.Printed.{AreNames}
use Rattle.dk_text.proofs.PrintedFiles.{printed_reads}
use Rattle.dk_text.proofs.Onto.{file_onto_is}
use Rattle.dk_text.proofs.Unique.{reads_unique}

no_names : AreNames []
no_names = record {
  identifiers = λ c e. absurd (both_ways (is_among c []) refl e);
  no_variables = λ c e. absurd (both_ways (is_among c []) refl e);
}

pub text_reads : (es : List Entry) → IsFile es → Reads [] (file_text es) es
text_reads es f = subst (λ (bytes : List ℕ). Reads [] bytes es) (file_onto_is es) (printed_reads [] es no_names f.in_order (omega (arith, f.bounded)))

pub one_reading : (es ds : List Entry) → IsFile es → Reads [] (file_text es) ds → ds ≡ es
one_reading es ds f r = reads_unique [] (file_text es) ds es r (text_reads es f)
