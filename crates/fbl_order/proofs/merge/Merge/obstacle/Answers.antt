use Rattle.fbl_order.proofs.Common.{Breaks, false, have_lives, placed_of, true}
use Rattle.fbl_order.specs.declared.known.BrokenRule.TheVariants as broken
use Rattle.fbl_order.proofs.Obstacles.{breaks_found, control_case, event_case, hindered, life_case}
use Rattle.fbl_order.proofs.merge.Merge.obstacle.Goals as goal

event_breaks : (c : goal.In-Event) → Breaks (have_lives c.args.entries.now) c.args.n (placed_of c.args.entries.now c.args.self.now) c.args.entry.now (broken.Event c.in-Event.rule)
event_breaks c = breaks_found (have_lives c.args.entries.now) c.args.n (placed_of c.args.entries.now c.args.self.now) c.args.entry.now c.broken_rule.result (broken.Event c.in-Event.rule)
    c.in-Event.ensures (c.broken_rule.ensures (have_lives c.args.entries.now) (placed_of c.args.entries.now c.args.self.now) c.requires.merges.known)

pub event_obstacle-requires-clause-plain : goal.event_obstacle-requires-clause-plain
event_obstacle-requires-clause-plain c = event_case (have_lives c.args.entries.now) c.args.n (placed_of c.args.entries.now c.args.self.now) c.args.entry.now c.in-Event.rule (event_breaks c)

pub returns-in-Event-clause-hinders : goal.returns-in-Event-clause-hinders
returns-in-Event-clause-hinders c =
    let has = have_lives c.args.entries.now in
    let run = placed_of c.args.entries.now c.args.self.now in
    let breaks = breaks_found has c.args.n run c.args.entry.now c.broken_rule.result (broken.Event c.in-Event.rule) c.in-Event.ensures (c.broken_rule.ensures has run c.requires.merges.known) in
    hindered has false c.args.n c.args.entries.now run c.args.entry.now (broken.Event c.in-Event.rule) c.event_obstacle.result (event_case has c.args.n run c.args.entry.now c.in-Event.rule breaks) breaks
    (c.event_obstacle.ensures.hinders c.args.n)

control_breaks : (c : goal.In-Control) → Breaks (have_lives c.args.entries.now) c.args.n (placed_of c.args.entries.now c.args.self.now) c.args.entry.now (broken.Control c.in-Control.rule)
control_breaks c = breaks_found (have_lives c.args.entries.now) c.args.n (placed_of c.args.entries.now c.args.self.now) c.args.entry.now c.broken_rule.result (broken.Control c.in-Control.rule)
    c.in-Control.ensures (c.broken_rule.ensures (have_lives c.args.entries.now) (placed_of c.args.entries.now c.args.self.now) c.requires.merges.known)

pub control_obstacle-requires-clause-plain : goal.control_obstacle-requires-clause-plain
control_obstacle-requires-clause-plain c = control_case (have_lives c.args.entries.now) c.args.n (placed_of c.args.entries.now c.args.self.now) c.args.entry.now c.in-Control.rule (control_breaks c)

pub returns-in-Control-clause-hinders : goal.returns-in-Control-clause-hinders
returns-in-Control-clause-hinders c =
    let has = have_lives c.args.entries.now in
    let run = placed_of c.args.entries.now c.args.self.now in
    let breaks = breaks_found has c.args.n run c.args.entry.now c.broken_rule.result (broken.Control c.in-Control.rule) c.in-Control.ensures (c.broken_rule.ensures has run c.requires.merges.known) in
    hindered has false c.args.n c.args.entries.now run c.args.entry.now (broken.Control c.in-Control.rule) c.control_obstacle.result (control_case has c.args.n run c.args.entry.now c.in-Control.rule breaks) breaks
    (c.control_obstacle.ensures.hinders c.args.n)

life_breaks : (c : goal.In-Life) → Breaks (have_lives c.args.entries.now) c.args.n (placed_of c.args.entries.now c.args.self.now) c.args.entry.now (broken.Life c.in-Life.rule)
life_breaks c = breaks_found (have_lives c.args.entries.now) c.args.n (placed_of c.args.entries.now c.args.self.now) c.args.entry.now c.broken_rule.result (broken.Life c.in-Life.rule)
    c.in-Life.ensures (c.broken_rule.ensures (have_lives c.args.entries.now) (placed_of c.args.entries.now c.args.self.now) c.requires.merges.known)

pub life_obstacle-requires-clause-lived : goal.life_obstacle-requires-clause-lived
life_obstacle-requires-clause-lived c = life_case (have_lives c.args.entries.now) c.args.n (placed_of c.args.entries.now c.args.self.now) c.args.entry.now c.in-Life.rule (life_breaks c)

pub returns-in-Life-clause-hinders : goal.returns-in-Life-clause-hinders
returns-in-Life-clause-hinders c =
    let has = have_lives c.args.entries.now in
    let run = placed_of c.args.entries.now c.args.self.now in
    let breaks = breaks_found has c.args.n run c.args.entry.now c.broken_rule.result (broken.Life c.in-Life.rule) c.in-Life.ensures (c.broken_rule.ensures has run c.requires.merges.known) in
    hindered has true c.args.n c.args.entries.now run c.args.entry.now (broken.Life c.in-Life.rule) c.life_obstacle.result (life_case has c.args.n run c.args.entry.now c.in-Life.rule breaks) breaks
    (c.life_obstacle.ensures.hinders c.args.n)
