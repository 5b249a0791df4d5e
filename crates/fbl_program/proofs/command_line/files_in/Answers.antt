use Rattle.fbl_program.proofs.Common.{◌≡◌, ◌∙◌, ◌++◌, Bor, List, None, Option, Some, Text, [], all_of, ap, found_of, map, option_map, raw_values-rows, refl, unwrap_or}
use Rattle.clap.specs.Words.{rows_of}
use Rattle.fbl_program.proofs.command_line.files_in.Goals as goal

-- the names that a list of some has, or none
names_of : (found : Option (Bor (List (Bor Text)))) (none : Bor (List (Bor Text))) (texts : Option (List Text)) → none.now ≡ []
    → option_map (λ s. map (λ v. v.now) s.now) found ≡ texts → map (λ v. v.now) (unwrap_or found none).now ≡ unwrap_or texts []
names_of None none texts empty is = ap (map (λ v. v.now)) empty ∙ ap (λ t. unwrap_or t []) is
names_of (Some s) none texts empty is = ap (λ t. unwrap_or t []) is

pub returns : goal.returns
returns c =
    let found = c.get_raw.result in
    let texts = all_of c.args.name.now (rows_of (found_of c.args.found.now)) in
    let given : option_map (λ s. map (λ v. v.now) s.now) found ≡ texts = c.get_raw.ensures ∙ raw_values-rows (found_of c.args.found.now) c.args.name.now in
    let items : c.extend_from_slice.new.self.items ≡ c.unwrap_or.result.now = c.in_ok-extend_from_slice.ensures.items ∙ ap (λ x. x ++ c.unwrap_or.result.now) c.new-files.ensures.items in
    ap (map (λ v. v.now)) items ∙ (ap (λ b. map (λ v. v.now) b.now) c.unwrap_or.ensures ∙ names_of found _ texts refl given)
