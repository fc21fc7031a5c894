-- Whether two terms are equal, as a test.
use Rattle.std.specs.Prelude.{Bool, true, false, ◌&&◌, ◌==◌}
use Rattle.std.specs.Str.{bytes_eq}
use Rattle.lp_terms.specs.Term.{Lp}

abbrev pub same : Lp → Lp → Bool
same Lp.sort Lp.sort = true
same (Lp.const x) (Lp.const y) = bytes_eq x y
same (Lp.free m) (Lp.free n) = m == n
same (Lp.index i) (Lp.index j) = i == j
same (Lp.app f a) (Lp.app g b) = same f g && same a b
same (Lp.abs a c) (Lp.abs b d) = same a b && same c d
same (Lp.prod a c) (Lp.prod b d) = same a b && same c d
same _ _ = false
