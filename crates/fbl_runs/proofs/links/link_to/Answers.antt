use Rattle.fbl_runs.proofs.Common.{ℕ, ◌≡◌, ◌<◌, ◌+◌, ◌∙◌, ap, arith, entry_member, length, log_of, Option, StoodBefore, subst, sym, take}
use Rattle.std.specs.Option.{is_some}
use Rattle.fbl_runs.specs.KnownLives.{IsKnownLog}
use Rattle.fbl_runs.specs.Links.{IsLastPlace}
use Rattle.fbl_runs.proofs.Listing.{read_number}
use Rattle.fbl_runs.proofs.NewLinkLaws.{begins_part, events_placed, few_lives, kept_part, life_part, message_part, own, previous_part, restart_none, restart_some, size, stood_part}
use Rattle.fbl_runs.proofs.links.link_to.Goals as goal
use Rattle.fbl_runs.proofs.links.link_to.Goals.{then-is_some, else-is_some}

pub overflow_cast-result : goal.overflow_cast-result
overflow_cast-result c =
    let lives = c.args.lives.now in
    let log = c.index-log.result.now in
    let within : c.number.result < length lives.logs.items = (let room = lives.room in let bound = c.number.ensures.bound in omega (arith, room, bound)) in
    let at_log = read_number lives.logs.items c.number.result (entry_member c.args.entry.now) log (c.number.ensures.value ∙ c.member.ensures) within c.index-log.ensures in
    let few = few_lives c.requires.0 lives c.requires.1 log.life (entry_member c.args.entry.now) _ (c.requires.1.logs (entry_member c.args.entry.now) log at_log).life in
    omega (arith, few)

pub returns-clause-new : goal.returns-clause-new
returns-clause-new c n entries place j lawful stands here has =
    let e = c.args.entry.now in
    let lives = c.args.lives.now in
    let log = c.index-log.result.now in
    let before = take (place + 1) entries in
    let member : entry_member e ≡ j.member = own n entries lawful place j e stands here lives has in
    let within : c.number.result < length lives.logs.items = (let room = lives.room in let bound = c.number.ensures.bound in omega (arith, room, bound)) in
    let at_log = read_number lives.logs.items c.number.result j.member log (c.number.ensures.value ∙ c.member.ensures ∙ member) within c.index-log.ensures in
    let is : IsKnownLog before lives.lives.items j.member log = has.logs j.member log at_log in
    let stood : IsLastPlace entries (λ i. StoodBefore (log_of entries) i j) (StoodBefore (log_of entries)) c.if-is_some.stood = elim c.if-is_some.branch [
      | then-is_some w ↦ (
          let r = restart_some e (sym (ap is_some c.restart.ensures) ∙ sym c.is_some.ensures ∙ w.if-is_some.true) in
          subst (λ (o : Option ℕ). IsLastPlace entries (λ i. StoodBefore (log_of entries) i j) (StoodBefore (log_of entries)) o) (sym w.stood-is)
          (kept_part n entries lawful place j e stands here lives has log is w.last_standing-stood.result r.0 r.1 (w.last_standing-stood.ensures (events_placed n entries lawful place j e stands here lives has log is))))
      | else-is_some w ↦ (
          let none = restart_none e (sym (ap is_some c.restart.ensures) ∙ sym c.is_some.ensures ∙ w.if-is_some.false) in
          subst (λ (o : Option ℕ). IsLastPlace entries (λ i. StoodBefore (log_of entries) i j) (StoodBefore (log_of entries)) o) (sym w.stood-is)
          (stood_part n entries lawful place j e stands here lives has log is c.previous-previous.result none c.previous-previous.ensures))
    ] in
    record {
      but_undone = λ undone undone_by. record {
        number = (let count = size n entries lawful place j e stands here lives has log is in let len = c.len.ensures in omega (arith, count, len));
        previous = previous_part n entries lawful place j e stands here lives has log is c.previous-previous.result c.previous-previous.ensures;
        stood = stood;
        message = message_part n entries lawful place j e stands here lives has c.message.result (λ m told. c.message.ensures.told before m has told) (λ d taken. c.message.ensures.taken before d has taken) c.message.ensures.other;
        begins = begins_part n entries lawful place j e stands here lives has c.beginning.result (λ d taken. c.beginning.ensures.receipt before d has taken) c.beginning.ensures.other;
        undone = undone_by;
      };
      life = life_part n entries lawful place j e stands here lives has log is;
      few = few_lives before lives has log.life j.member _ is.life;
    }
