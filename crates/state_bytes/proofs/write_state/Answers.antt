-- `state_bytes::write_state` meets its contract. Assumes nothing.
use mathlib.Core.Path.{refl}
use native.Mathlib.Omega.{arith}
use Rattle.numbers.specs.Numbers.{big}
use Rattle.numbers.proofs.RunLaws.{over-lend}
use Rattle.state_bytes.specs.Layout.{encode_state, encode_setup, encode_place, encode_clock, encode_votes, StateFits}
use Rattle.state_bytes.proofs.LayoutLaws.{front_length, state-held}
use Rattle.state_bytes.proofs.write_state.Goals as goal

pub returns : goal.returns
unfolding big encode_state encode_setup encode_place encode_clock encode_votes
returns c =
    let a = c.args in
    let g = c.well_formed.1.0 in
    let s2 = over-lend _ _ _ 12 refl c.write_setup.ensures c.write_place.ensures in
    let s3 = over-lend _ _ _ 30 refl s2 c.write_clock.ensures in
    let s4 = over-lend _ _ _ 38 refl s3 c.write_votes.ensures in
    let s5 = over-lend _ _ _ 48 refl s4 c.write_reports.ensures.0 in
    let fits : StateFits a.s = record {
      n = omega (arith, g);
      id = omega (arith, g);
      timeout = omega (arith, g);
      room = omega (arith, g);
      members = omega (arith, g);
      view = omega (arith, g);
      normal = omega (arith, g);
      op = omega (arith, g);
      commit = omega (arith, g);
      takings = omega (arith, g);
      waiting = omega (arith, g);
      stable = omega (arith, g);
      attempts = omega (arith, g);
      starts = omega (arith, g);
      nonce = omega (arith, g);
      reports = c.write_reports.ensures.1;
    } in
    let s6 = over-lend _ _ _ 146 (front_length a.s fits) s5 c.write_u64.ensures in
    state-held a.s fits a.run.now c.requires s6
