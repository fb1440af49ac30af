-- `Run::with_room` meets its contract, with the text handed over and without. Assumes nothing.
use Rattle.std.proofs.Common.{refl, sym, arith, inl}
use Rattle.events.proofs.Going.{none_stays, all_stays, waiting}
use Rattle.events.proofs.Run.with_room.Goals as goal

pub hand_over_all-self-requires : goal.hand_over_all-self-requires
hand_over_all-self-requires c = record { all = refl; due = inl (omega (arith, waiting c.args.self.now, c.if-self-gt-FULL.true)) }

pub returns-then-self-gt-FULL : goal.returns-then-self-gt-FULL
returns-then-self-gt-FULL c =
    let r = c.args.self.now in
    let h = c.if-self-gt-FULL.true in
    record {
      state = refl;
      store = refl;
      keeps = λ i. record { records = r.records; frames = r.frames; waits = sym (none_stays r h) i };
      room = omega arith;
      closed = c.hand_over_all-self.ensures;
      untried = λ k. absurd (omega (arith, h, k));
    }

pub returns-else-self-gt-FULL : goal.returns-else-self-gt-FULL
returns-else-self-gt-FULL c =
    let r = c.args.self.now in
    let h = c.if-self-gt-FULL.false in
    record {
      state = refl;
      store = refl;
      keeps = λ i. record { records = r.records; frames = r.frames; waits = sym (all_stays r h) i };
      room = omega (arith, h);
      closed = λ o. o;
      untried = λ k. refl;
    }
