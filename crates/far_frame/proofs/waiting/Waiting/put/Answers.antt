use Rattle.std.proofs.Common.{◌≡◌, ◌∙◌, None, Some, ap, sym, rules}
use Rattle.std.specs.Map.{lookup, set_value}
use Rattle.far_frame.specs.Waiting.{Waiting, is_number, listed}
use Rattle.far_frame.proofs.WaitingLaws.{set-absent}
use Rattle.far_frame.proofs.waiting.Waiting.put.Goals as goal

pub returns-in_default-get_mut : goal.returns-in_default-get_mut
returns-in_default-get_mut g c =
    let entries = c.self.inside.jobs.entries in
    let absent : lookup (is_number c.args.n) entries ≡ None = search rules in
    ap (λ lone. listed lone c.get_mut.follows.lender-at-none.entries) c.in_default.is
    ∙ ap (λ m. m.entries) c.get_mut.follows.holds-at-none
    ∙ sym (set-absent (is_number c.args.n) entries (Some c.args.job) absent)
    ∙ ap (λ (w : Waiting _). set_value (is_number c.args.n) w (Some c.args.job)) (ap (λ lone. listed lone entries) (sym c.in_default.is) ∙ c.self.view_is)
