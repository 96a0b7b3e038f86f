use Rattle.std.proofs.Common.{ℕ, ◌≡◌, ◌≤◌, List, [], Option, Some, refl, ap, sym, subst, ◌∙◌, arith, inl, inr}
use Rattle.disk_model.specs.declared.devices.Devices.{Devices}
use Rattle.host_model.specs.HostState.{HostState, DeviceBytes, StreamBytes, device_bytes, device_counts, stream_bytes, stream_counts}
use Rattle.host_model.specs.Lent.{Lent}
use Rattle.host_model.proofs.HostLemmas.{WithFirst, all_back, devices_back, are_devices-again, first_risen-rose, first_risen-kept, streams_risen-rose, streams_risen-kept}
use Rattle.session_core.specs.declared.session_end.SessionEnd.{SessionEnd}
use Rattle.session_core.specs.declared.session_end.SessionEnd.TheVariants.{SourceFault, SinkFault}
use Rattle.remixdb.specs.Outcomes.{status_of, outcome_of_run, outcome_of_refusal, IsCleanOfDevices, IsCleanOfStreams}
use Rattle.remixdb.specs.Scripts.{HomeState, home_of, streams_at_home}
use Rattle.remixdb.proofs.FirstLemmas.{with_first, with_was, counts_again, first-device, within-first, faults-first, others_stay, strip_at_home, first-leaves, leaves-first}
use Rattle.remixdb.proofs.Failing.{SessionTold, session_told, refused_rose, refused_kept, refused_later, refused_not_five, one_rose, stream_ended, source_unclean, sink_unclean}
use Rattle.remixdb.proofs.Serving.{Run, Refused, run_ends, run_failed, run_kept, refused_ends, failed_ends, failed_idle, failed_causes, told_later, ends_at, of_its_book, of_first}
use Rattle.remixdb.proofs.script.script.Given.{Over}
use Rattle.remixdb.proofs.script.script.Goals as goal

-- ---- an opening that was refused

pub give_back-requires-clause-out : goal.give_back-requires-clause-out
give_back-requires-clause-out g c =
    let strip = g.H.Strip.Strip in
    let shelf = g.H.Shelf.Shelf in
    let o = c.in-Err-open.ensures.refused in
    let w0 = with_was c.in-Ok.devices o.beside o.was o.before in
    let w1 = with_first c.in-Err-open.devices o.beside _ o.now in
    let within = within-first strip shelf c.in-Ok.devices o.was _ _ _ _ _ w0 c.in-Ok.ensures.within in
    rw (c.in-Ok.ensures.lent) (refl, counts_again strip shelf c.in-Ok.devices c.in-Err-open.devices o.was o.now.first _ _ _ _ w0 w1 (refused_later c.in-Err-open.error _ _ _ within.1 o.now.holds.cause))

pub give_back-requires-clause-all : goal.give_back-requires-clause-all
give_back-requires-clause-all g c =
    let strip = g.H.Strip.Strip in
    let shelf = g.H.Shelf.Shelf in
    let o = c.in-Err-open.ensures.refused in
    let w0 = with_was c.in-Ok.devices o.beside o.was o.before in
    let w1 = with_first c.in-Err-open.devices o.beside _ o.now in
    are_devices-again strip shelf c.in-Ok.devices c.in-Err-open.devices o.was o.now.first _ _ _ _ w0 w1 (ap (λ (b : _). b.device) o.now.holds.calls.same.book ∙ first-device strip shelf c.in-Ok.devices o.was _ _ _ _ w0 c.in-Ok.ensures.all) c.in-Ok.ensures.all

pub returns-in-Err-open-clause-home : goal.returns-in-Err-open-clause-home
returns-in-Err-open-clause-home g c = rw (c.give_back.ensures.back, c.in-Ok.ensures.lent) ((_, refl), c.requires.1)

pub returns-in-Err-open-clause-causes : goal.returns-in-Err-open-clause-causes
returns-in-Err-open-clause-causes g c =
    let strip = g.H.Strip.Strip in
    let shelf = g.H.Shelf.Shelf in
    let o = c.in-Err-open.ensures.refused in
    let w0 = with_was c.in-Ok.devices o.beside o.was o.before in
    let w1 = with_first c.in-Err-open.devices o.beside _ o.now in
    let within = within-first strip shelf c.in-Ok.devices o.was _ _ _ _ _ w0 c.in-Ok.ensures.within in
    let back = devices_back (g.H.Host.state c.args.host.now) _ (g.H.Host.state c.give_back.new.self) (device_bytes strip shelf c.in-Err-open.devices) (device_counts strip shelf c.in-Ok.devices) (device_counts strip shelf c.in-Err-open.devices) c.in-Ok.ensures.lent c.give_back.ensures.back in
    let faults = faults-first strip shelf c.in-Ok.devices c.in-Err-open.devices o.was o.now.first _ _ _ _ _ _ w0 w1 back.device_faults in
    let is = ap status_of c.of_refusal.ensures in
    record {
      device_failed = λ four. first_risen-rose _ _ _ _ [] within.0 faults (refused_rose c.in-Err-open.error _ _ _ o.now.holds.cause (sym is ∙ four));
      device_kept = λ clean. first_risen-kept _ _ _ _ [] faults (refused_kept c.in-Err-open.error _ _ _ o.now.holds.cause (subst (λ (n : ℕ). IsCleanOfDevices n) is clean));
      stream_failed = λ five. absurd (refused_not_five c.in-Err-open.error (sym is ∙ five));
      stream_kept = λ clean. ap (λ (l : Lent StreamBytes). l.faults) back.streams;
    }

pub returns-in-Err-open-clause-bytes : goal.returns-in-Err-open-clause-bytes
returns-in-Err-open-clause-bytes g c =
    let strip = g.H.Strip.Strip in
    let shelf = g.H.Shelf.Shelf in
    let o = c.in-Err-open.ensures.refused in
    let w0 = with_was c.in-Ok.devices o.beside o.was o.before in
    let w1 = with_first c.in-Err-open.devices o.beside _ o.now in
    let back = devices_back (g.H.Host.state c.args.host.now) _ (g.H.Host.state c.give_back.new.self) (device_bytes strip shelf c.in-Err-open.devices) (device_counts strip shelf c.in-Ok.devices) (device_counts strip shelf c.in-Err-open.devices) c.in-Ok.ensures.lent c.give_back.ensures.back in
    let stay = others_stay strip shelf c.in-Ok.devices c.in-Err-open.devices o.was o.now.first _ _ _ _ _ _ w0 w1 c.in-Ok.ensures.bytes back.devices in
    let refused : Refused strip c.in-Err-open.error (g.H.Host.strip_leaves c.args.host.now 0) (g.H.Host.strip_leaves c.give_back.new.self 0) (home_of (g.H.Host.state c.args.host.now)) (home_of (g.H.Host.state c.give_back.new.self)) = record {
      first = o.was;
      last = o.now.first;
      is_refused = o.now.holds;
      was = strip_at_home strip shelf c.in-Ok.devices o.was _ _ _ _ _ w0 c.in-Ok.ensures.bytes;
      is = strip_at_home strip shelf c.in-Err-open.devices o.now.first _ _ _ _ _ w1 back.devices;
      widens = λ bytes left. (c.in-Ok.ensures.strip_images 0).0 bytes (leaves-first strip c.in-Ok.devices o.was _ _ _ _ bytes w0 left);
      narrows = λ bytes left. first-leaves strip c.in-Err-open.devices o.now.first _ _ _ _ bytes w1 ((c.give_back.ensures.strip_images 0).0 bytes left);
      silent = record { input = ap (λ (l : Lent StreamBytes). (streams_at_home l.home).input) back.streams; output = ap (λ (l : Lent StreamBytes). (streams_at_home l.home).output) back.streams };
      others = record { strips = stay.0; files = stay.1 };
    } in
    refused_ends strip c.in-Err-open.error _ _ _ _ refused _ (ap status_of c.of_refusal.ensures)

-- ---- devices that were not handed out

pub returns-in-Err-clause-causes : goal.returns-in-Err-clause-causes
returns-in-Err-clause-causes g c = failed_causes c.in-Err.error _ _ _ c.in-Err.ensures.refused (ap status_of c.of_failure.ensures)

pub returns-in-Err-clause-bytes : goal.returns-in-Err-clause-bytes
returns-in-Err-clause-bytes g c =
    let both = failed_idle c.in-Err.error _ _ c.in-Err.ensures.refused in
    failed_ends c.in-Err.error _ _ _ _ _ both.0 both.1 (λ bytes left. (c.in-Err.ensures.strips_kept 0).0 bytes left) (ap status_of c.of_failure.ensures)

-- ---- a session

pub give_streams-requires : goal.give_streams-requires
give_streams-requires g c =
    rw (c.streams-source.ensures.lent) (refl, (c.run_session-end.ensures.source_later, (c.run_session-end.ensures.sink_later, tt)))

pub close-closed-requires : goal.close-closed-requires
close-closed-requires g c = of_its_book _ _ c.tell_synced.ensures.device (c.run_session-end.ensures.books 0)

pub give_back-requires-2-clause-out : goal.give_back-requires-2-clause-out
give_back-requires-2-clause-out g c =
    let strip = g.H.Strip.Strip in
    let shelf = g.H.Shelf.Shelf in
    let first = c.in-Ok-open.ensures.opened in
    let last = c.close-closed.ensures.closed in
    let w0 = with_first c.in-Ok.devices _ _ first in
    let w1 = with_first c.close-closed.result.devices _ _ last in
    let within = within-first strip shelf c.in-Ok.devices first.first _ _ _ _ _ w0 c.in-Ok.ensures.within in
    let told : SessionTold (strip.count first.first) (strip.count c.run_session-end.new.pass.log.journal.strip) c.run_session-end.result.faults =
    subst (λ (n : ℕ). SessionTold n (strip.count c.run_session-end.new.pass.log.journal.strip) c.run_session-end.result.faults) first.holds.count (session_told c.run_session-end.result.end _ _ _ _ _ _ _ _ c.run_session-end.ensures.out) in
    let later : strip.count first.first ≤ strip.count last.first = told_later _ _ _ _ within.1 told last.holds.cause.later in
    rw (c.give_streams.ensures.back, c.streams-source.ensures.lent, c.in-Ok.ensures.lent) (refl, counts_again strip shelf c.in-Ok.devices c.close-closed.result.devices first.first last.first _ _ _ _ w0 w1 later)

pub give_back-requires-2-clause-all : goal.give_back-requires-2-clause-all
give_back-requires-2-clause-all g c =
    let strip = g.H.Strip.Strip in
    let shelf = g.H.Shelf.Shelf in
    let first = c.in-Ok-open.ensures.opened in
    let last = c.close-closed.ensures.closed in
    let w0 = with_first c.in-Ok.devices _ _ first in
    let w1 = with_first c.close-closed.result.devices _ _ last in
    are_devices-again strip shelf c.in-Ok.devices c.close-closed.result.devices first.first last.first _ _ _ _ w0 w1 (ap (λ (b : _). b.device) last.holds.calls.same.book ∙ c.tell_synced.ensures.device) c.in-Ok.ensures.all

pub returns-clause-home : goal.returns-clause-home
returns-clause-home g c = rw (c.give_back-2.ensures.back, c.give_streams.ensures.back) ((_, refl), (_, refl))

-- the steps of the call
run_of : (g : Over) (c : goal.After-of_run g) → Run g.H.Strip.Strip (g.H.Host.strip_leaves c.give_back-2.new.self 0) (home_of (g.H.Host.state c.args.host.now)) (home_of (g.H.Host.state c.give_back-2.new.self))
run_of g c =
    let strip = g.H.Strip.Strip in
    let shelf = g.H.Shelf.Shelf in
    let source = c.run_session-end.new.source in
    let sink = c.run_session-end.new.sink in
    let first = c.in-Ok-open.ensures.opened in
    let last = c.close-closed.ensures.closed in
    let w0 = with_first c.in-Ok.devices _ _ first in
    let w1 = with_first c.close-closed.result.devices _ _ last in
    let within = within-first strip shelf c.in-Ok.devices first.first _ _ _ _ _ w0 c.in-Ok.ensures.within in
    let back = all_back (g.H.Host.state c.args.host.now) _ _ _ (g.H.Host.state c.give_back-2.new.self) (device_bytes strip shelf c.close-closed.result.devices) (stream_bytes g.H.In.Source g.H.Out.Sink (source, sink)) (device_counts strip shelf c.in-Ok.devices) (device_counts strip shelf c.close-closed.result.devices) (stream_counts g.H.In.Source g.H.Out.Sink c.streams-source.result) (stream_counts g.H.In.Source g.H.Out.Sink (source, sink)) c.in-Ok.ensures.lent c.streams-source.ensures.lent c.give_streams.ensures.back c.give_back-2.ensures.back in
    let home = sym (ap (λ (h : HostState). h.streams.home) c.in-Ok.ensures.lent) ∙ c.streams-source.ensures.bytes in
    let stay = others_stay strip shelf c.in-Ok.devices c.close-closed.result.devices first.first last.first _ _ _ _ _ _ w0 w1 c.in-Ok.ensures.bytes back.devices in
    record {
      first = first.first;
      last = last.first;
      before = c.in-Ok-open.made.1;
      after = c.run_session-end.new.pass;
      end = c.run_session-end.result.end;
      decided = c.run_session-end.result.replies;
      units = c.run_session-end.result.faults;
      all = c.close-closed.result.faults;
      short = c.close-closed.result.short;
      failed = c.least_device.result;
      opened = first.holds;
      ends = ends_at c.run_session-end.result.end _ _ _ _ _ _ _ _ _ _ _ _
          (ap (λ (o : Option StreamBytes). (streams_at_home o).input) home) (ap (λ (o : Option StreamBytes). (streams_at_home o).output) home)
          (ap (λ (o : Option StreamBytes). (streams_at_home o).input) back.both) (ap (λ (o : Option StreamBytes). (streams_at_home o).output) back.both)
          c.run_session-end.ensures.out;
      closed = last.holds;
      own = c.close-closed.ensures.own;
      least = c.least_device.ensures;
      was = strip_at_home strip shelf c.in-Ok.devices first.first _ _ _ _ _ w0 c.in-Ok.ensures.bytes;
      is = strip_at_home strip shelf c.close-closed.result.devices last.first _ _ _ _ _ w1 back.devices;
      narrows = λ bytes left. first-leaves strip c.close-closed.result.devices last.first _ _ _ _ bytes w1 ((c.give_back-2.ensures.strip_images 0).0 bytes left);
      within = within.0;
      fits = within.1;
      faults = faults-first strip shelf c.in-Ok.devices c.close-closed.result.devices first.first last.first _ _ _ _ _ _ w0 w1 back.device_faults;
      of_first = of_first c.run_session-end.result.faults c.run_session-end.ensures.books;
      others = record { strips = stay.0; files = stay.1 };
    }

pub returns-clause-causes : goal.returns-clause-causes
unfolding run_of
returns-clause-causes g c =
    let source = c.run_session-end.new.source in
    let sink = c.run_session-end.new.sink in
    let run = c.run_session-end.ensures in
    let r = run_of g c in
    let short = c.close-closed.result.short in
    let failed = c.least_device.result in
    let end = c.run_session-end.result.end in
    let is = ap status_of c.of_run.ensures in
    let back = all_back (g.H.Host.state c.args.host.now) _ _ _ (g.H.Host.state c.give_back-2.new.self) (device_bytes g.H.Strip.Strip g.H.Shelf.Shelf c.close-closed.result.devices) (stream_bytes g.H.In.Source g.H.Out.Sink (source, sink)) (device_counts g.H.Strip.Strip g.H.Shelf.Shelf c.in-Ok.devices) (device_counts g.H.Strip.Strip g.H.Shelf.Shelf c.close-closed.result.devices) (stream_counts g.H.In.Source g.H.Out.Sink c.streams-source.result) (stream_counts g.H.In.Source g.H.Out.Sink (source, sink)) c.in-Ok.ensures.lent c.streams-source.ensures.lent c.give_streams.ensures.back c.give_back-2.ensures.back in
    let same : (g.H.Host.state c.devices.new.self).streams.faults ≡ (g.H.Host.state c.args.host.now).streams.faults = ap (λ (h : HostState). h.streams.faults) c.in-Ok.ensures.lent in
    record {
      device_failed = λ four. run_failed g.H.Strip.Strip _ _ _ r (sym is ∙ four);
      device_kept = λ clean. run_kept g.H.Strip.Strip _ _ _ r (subst (λ (n : ℕ). IsCleanOfDevices n) is clean);
      stream_failed = λ five.
          let ended = stream_ended short failed end (sym is ∙ five) in
          streams_risen-rose _ _ _ _ _ _ (omega (arith, c.streams-source.ensures.within.0.0, same)) (omega (arith, c.streams-source.ensures.within.1.0.0, same)) run.source_later run.sink_later back.stream_faults (elim ended [ inl e ↦ inl (one_rose _ _ (run.source_failed e)) | inr e ↦ inr (one_rose _ _ (run.sink_failed e)) ]);
      stream_kept = λ clean.
          let by_end : IsCleanOfStreams (status_of (outcome_of_run short failed end)) = subst (λ (n : ℕ). IsCleanOfStreams n) is clean in
          let no_source : end ≡ SourceFault → ⊥ = λ e. source_unclean short failed (subst (λ (x : SessionEnd). IsCleanOfStreams (status_of (outcome_of_run short failed x))) e by_end) in
          let no_sink : end ≡ SinkFault → ⊥ = λ e. sink_unclean short failed (subst (λ (x : SessionEnd). IsCleanOfStreams (status_of (outcome_of_run short failed x))) e by_end) in
          streams_risen-kept _ _ _ _ _ _ back.stream_faults (run.source_kept no_source no_sink) (run.sink_kept no_sink);
    }

pub returns-clause-bytes : goal.returns-clause-bytes
unfolding run_of
returns-clause-bytes g c = run_ends g.H.Strip.Strip _ _ _ _ (run_of g c) _ (ap status_of c.of_run.ensures)
