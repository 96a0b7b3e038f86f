use Rattle.std.proofs.Common.{Some, ap, sym, ◌∙◌, rules, ℕ}
use Rattle.host_model.specs.HostState.{DeviceBytes}
use Rattle.remixdb.proofs.SystemLemmas.{fresh_counts, untold_bytes, home_untold}
use Rattle.remixdb.proofs.system_host.SystemHostHost.devices.Goals as goal

pub replace-requires : goal.replace-requires
replace-requires c =
    let within = λ (faults : ℕ). fresh_counts faults c.in_ok-devices.devices c.counts_of-counts.result c.counts_of-counts.ensures c.in_ok-devices.ensures.fresh in
    search (rules, within)

pub returns-clause-bytes : goal.returns-clause-bytes
returns-clause-bytes c = home_untold _ _ _ c.requires ∙ ap (λ (d : DeviceBytes). Some d) (sym (untold_bytes c.in_ok-devices.devices c.in_ok-devices.ensures.all.strips))
