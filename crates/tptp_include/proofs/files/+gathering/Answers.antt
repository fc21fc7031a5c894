use Rattle.std.proofs.Common.{◌≡◌, ◌+◌, ◌∷◌, ◌++◌, [], Ok, length, map, refl, ap, sym, ◌∙◌, arith}
use Rattle.std.proofs.lemmas.Result.{err_from_is_err_and}
use Rattle.tptp_include.specs.Gathering.{Gathers, Gives, opened}
use Rattle.tptp_include.specs.Outcomes.{placed_of, refusal_of}
use Rattle.tptp_include.proofs.Lists.{all_appended}
use Rattle.tptp_include.proofs.Steps.{told_along, ends_list, refuses_file, goes_on, unopened_told, refuses_include, keeps_include, is_single, placed_appended}
use Rattle.tptp_include.proofs.files.+gathering.Goals as goal

pub gather_file-returns-in_err-next_statement-clause-told : goal.gather_file-returns-in_err-next_statement-clause-told
gather_file-returns-in_err-next_statement-clause-told g t c = λ fs is.
    let p = err_from_is_err_and c.from_residual.result c.from_residual.ensures.1 in
    let path = c.args.reached.now.path.items in
    let count = c.loop-list.reached.count in
    rw (p.1, p.2) (told_along (Gathers fs path c.args.name.now c.args.bytes.now c.loop-list.at count) _ _
    (λ r h. c.loop-list.invariant.told fs is _ h) (c.in_err-next_statement.ensures.refused fs path count))

pub gather_file-returns-in-End-clause-told : goal.gather_file-returns-in-End-clause-told
gather_file-returns-in-End-clause-told g t c = λ fs is.
    let read = rw c.in-End.is at c.in_ok-next_statement.ensures.read in
    ends_list fs _ _ _ _ _ _ _ read (c.loop-list.invariant.told fs is)

pub gather_file-returns-in_err-more-clause-told : goal.gather_file-returns-in_err-more-clause-told
gather_file-returns-in_err-more-clause-told g t c = λ fs is.
    let p = err_from_is_err_and c.from_residual-in_err-more.result c.from_residual-in_err-more.ensures.1 in
    let read = rw c.in-Statement.is at c.in_ok-next_statement.ensures.read in
    rw (p.1, p.2) (refuses_file fs _ _ _ _ _ _ _ _ _ _ _ _ c.loop-list.invariant.path read.0
    (c.loop-list.invariant.told fs is) (c.in_err-more.ensures.told fs (c.loop-list.invariant.files ∙ is)))

pub gather_file-loop-list-preserved : goal.gather_file-loop-list-preserved
gather_file-loop-list-preserved g t c =
    let read = rw c.in-Statement.is at c.in_ok-next_statement.ensures.read in
    let old = c.loop-list.list.items in
    let more = c.in_ok-more.more.items in
    let list : map placed_of c.append.new.self.items ≡ map placed_of old ++ map placed_of more =
    ap (map placed_of) c.in_ok-append.ensures.items ∙ placed_appended old more in
    record {
      told = λ fs is o rest. rw list (goes_on fs _ _ _ _ _ _ _ _ _ _ _ _ _ c.loop-list.invariant.path read.0
          (c.loop-list.invariant.told fs is) (c.in_ok-more.ensures.told fs (c.loop-list.invariant.files ∙ is)) o rest);
      gathered = rw list (all_appended _ _ c.loop-list.invariant.gathered c.in_ok-more.ensures.gathered);
      within = read.3;
      count = c.in_ok-more.ensures.reached.0;
      path = c.in_ok-more.ensures.reached.1 ∙ c.loop-list.invariant.path;
      files = c.in_ok-more.ensures.files ∙ c.loop-list.invariant.files;
      later = omega (arith, c.in_ok-more.ensures.later, c.loop-list.invariant.later);
    }

pub gather_include-returns-in_err-bytes-clause-told : goal.gather_include-returns-in_err-bytes-clause-told
gather_include-returns-in_err-bytes-clause-told g t c = λ fs name at is.
    let p = err_from_is_err_and c.from_residual.result c.from_residual.ensures.1 in
    rw (p.1, p.2) (unopened_told fs _ name at _ _ _ _ (rw (c.deref.ensures.value, c.text.ensures) at (c.in_err-bytes.ensures.told fs is)))

pub gather_include-returns-in_err-list-clause-told : goal.gather_include-returns-in_err-list-clause-told
gather_include-returns-in_err-list-clause-told g t c = λ fs name at is.
    let p = err_from_is_err_and c.from_residual-in_err-list.result c.from_residual-in_err-list.ensures.1 in
    let path = c.args.reached.now.path.items in
    let same : c.enter.new.self.path.items ≡ path ++ c.in_ok-name.name ∷ [] =
    rw c.in_ok-share.ensures at c.in_ok-enter.ensures.path in
    let called : c.in_ok-name.name ≡ c.args.file.now = c.in_ok-name.ensures ∙ c.text-2.ensures in
    let counted : c.enter.new.self.count ≡ c.args.reached.now.count + length c.in_ok-bytes.bytes.items =
    c.in_ok-enter.ensures.count ∙ ap (λ n. c.args.reached.now.count + n) (c.len.ensures ∙ sym c.deref-2.ensures.len ∙ ap length c.deref-2.ensures.value) in
    let found : opened fs path c.args.file.now c.args.reached.now.count ≡ Ok c.in_ok-bytes.bytes.items =
    rw (c.deref.ensures.value, c.text.ensures) at (c.in_ok-bytes.ensures.told fs is) in
    rw (p.1, p.2) (refuses_include fs path _ name _ at _ _ _ _ c.in_ok-bytes.bytes.items _ same called counted found
    (rw c.deref-2.ensures.value at (c.in_err-list.ensures.told fs (c.in_ok-bytes.ensures.files ∙ is))))

pub gather_include-returns-clause-told : goal.gather_include-returns-clause-told
gather_include-returns-clause-told g t c = λ fs name at is.
    let path = c.args.reached.now.path.items in
    let same : c.enter.new.self.path.items ≡ path ++ c.in_ok-name.name ∷ [] =
    rw c.in_ok-share.ensures at c.in_ok-enter.ensures.path in
    let called : c.in_ok-name.name ≡ c.args.file.now = c.in_ok-name.ensures ∙ c.text-2.ensures in
    let counted : c.enter.new.self.count ≡ c.args.reached.now.count + length c.in_ok-bytes.bytes.items =
    c.in_ok-enter.ensures.count ∙ ap (λ n. c.args.reached.now.count + n) (c.len.ensures ∙ sym c.deref-2.ensures.len ∙ ap length c.deref-2.ensures.value) in
    let found : opened fs path c.args.file.now c.args.reached.now.count ≡ Ok c.in_ok-bytes.bytes.items =
    rw (c.deref.ensures.value, c.text.ensures) at (c.in_ok-bytes.ensures.told fs is) in
    keeps_include fs path _ name _ at _ _ _ _ c.in_ok-bytes.bytes.items _ _ same called counted found
    (rw c.deref-2.ensures.value at (c.in_ok-list.ensures.told fs (c.in_ok-bytes.ensures.files ∙ is)))
    (c.keep.ensures.told c.gather_file.new.reached.count)

pub gather_statement-returns : goal.gather_statement-returns
gather_statement-returns g t c =
    let single = is_single c.args.statement.body c.in_default.not-Include in
    record {
      told = λ fs is. rw c.in_ok-single.ensures (Gives.single single);
      gathered = rw c.in_ok-single.ensures ((single, c.requires.limits), tt);
      reached = (c.requires.count, refl);
      files = refl;
      later = omega arith;
      failed = λ is. cc;
    }
