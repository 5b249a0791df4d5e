use Rattle.fbl_order.proofs.Common.{[], ◌∷◌, ◌∙◌, ◌++◌, List, Mark, ap, filter_map-append, mark_in, marks, subst, sym}
use Rattle.fbl_runs.specs.ControlMessages.{HasTold}
use Rattle.fbl_order.proofs.known.KnownTrace.add.Goals as goal

pub returns : goal.returns
returns c before known =
    let e = c.args.entry.now in
    record {
      run = c.in_ok-add_event.ensures.run ∙ ap (λ (t : List Mark). t ++ marks (e ∷ [])) known.run ∙ sym (filter_map-append mark_in before (e ∷ []));
      counted = c.in_ok-add_event.ensures.counted;
      control = c.in_ok-add.ensures before (subst (HasTold before) (sym c.in_ok-add_event.ensures.control) known.control);
    }
