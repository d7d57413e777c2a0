use Rattle.std.proofs.Common.{rules, ℕ, [], ◌∷◌, ◌++◌, ◌+◌, Some, take, ◌≡◌, ◌∙◌, Bor, List, Option, get_or, subst, ap, sym}
use Rattle.std.proofs.lemmas.Result.{err_from_is_err_and}
use Rattle.radpolicy.specs.Plans.{names_of_files, names_of_paths}
use Rattle.radpolicy_common.specs.declared.files.Unread.{Unread}
use Rattle.avp_dict.specs.declared.file.files.NamedFile.{NamedFile}
use Rattle.radpolicy_common.specs.Inputs.{Contents, AreUnread, WhereKnown, AreRead, files_of, octets_of_files}
use Rattle.radpolicy_common.proofs.ReadInputs.{names_next, read_next, unread_next}
use Rattle.radpolicy_common.proofs.files.read_dictionaries.Goals as goal

pub returns-in_err-octets-clause-unread : goal.returns-in_err-octets-clause-unread
returns-in_err-octets-clause-unread g c =
    let p = err_from_is_err_and c.from_residual.result c.from_residual.ensures.1 in
    let known : Option Contents = g.I.Inputs.contents c.args.inputs.now in
    let unread : Unread = c.in_err-octets.field-0.0 in
    let path : Bor (List ℕ) = get_or c.args.paths.now c.loop-path.path-index (record { ref_ptr = (0, 0); now = [] }) in
    let all : WhereKnown known (λ c'. AreUnread (files_of c' c.args.paths.now) unread) =
    unread_next known c.args.paths.now c.loop-path.path-index path (search rules) (search rules) _ unread c.loop-path.invariant.read c.in_err-octets.ensures.read in
    rw (p.1, p.2) all

pub loop-path-preserved : goal.loop-path-preserved
loop-path-preserved g c =
    let known : Option Contents = g.I.Inputs.contents c.args.inputs.now in
    let path : Bor (List ℕ) = get_or c.args.paths.now c.loop-path.path-index (record { ref_ptr = (0, 0); now = [] }) in
    let files : List NamedFile = c.loop-path.files.items in
    let file : NamedFile = c.in_ok-at.field-0 in
    let pushed : c.push.new.self.items ≡ files ++ file ∷ [] = search rules in
    let held : WhereKnown known (λ c'. c'.file path.now ≡ Some file.octets) = subst (λ octets. WhereKnown known (λ c'. c'.file path.now ≡ Some octets)) (sym c.in_ok-at.ensures.octets) c.in_ok-octets.ensures.read in
    let read : WhereKnown known (λ c'. AreRead (files_of c' (take (c.loop-path.path-index + 1) c.args.paths.now)) (octets_of_files (files ++ file ∷ []))) =
    read_next known c.args.paths.now c.loop-path.path-index path (search rules) (search rules) files file c.loop-path.invariant.read held in
    let names : names_of_files (files ++ file ∷ []) ≡ names_of_paths (take (c.loop-path.path-index + 1) c.args.paths.now) =
    names_next known c.args.paths.now c.loop-path.path-index path (search rules) (search rules) files file c.loop-path.invariant.names c.in_ok-at.ensures.name in
    record {
      names = ap names_of_files pushed ∙ names;
      read = subst (λ files. WhereKnown known (λ c'. AreRead (files_of c' (take (c.loop-path.path-index + 1) c.args.paths.now)) (octets_of_files files))) (sym pushed) read;
    }
