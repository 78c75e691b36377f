-- `read_radices` reads the radices of a text. Assumes nothing.
use Rattle.sequences.proofs.Basics.{refl, sym, ap, ◌∙◌, ◌≤◌, ◌+◌, arith, length, get_or, take, drop, drop_of_length-le}
use Rattle.tokens.specs.Reading.{room}
use Rattle.tokens.specs.declared.inner.tokens.Reading.{Reading}
use Rattle.tokens.proofs.Reading.{gives, gives_start, gives_next, gives_end, step_length, step_room, ended_fits}
use Rattle.tokens.proofs.inner.tokens.read_radices.Goals as goal

pub loop-b-init : goal.loop-b-init
loop-b-init c = record { few = omega arith; long = refl; all = gives_start _ _ refl refl }

pub loop-b-preserved : goal.loop-b-preserved
loop-b-preserved c =
    let l = c.loop-b in let s = l.reading in let text = c.args.text.now in let b = get_or text l.b-index 0 in let e = c.step.ensures in
    let h : room s ≤ 4096 = omega arith in record {
      few = omega (arith, ap room e, step_room s b);
      long = ap (λ (r : Reading). length r.list) e ∙ step_length s b ∙ l.invariant.long;
      all = ap (λ (r : Reading). gives r (drop (l.b-index + 1) text)) e ∙ gives_next s text l.b-index (omega arith) h l.invariant.long ∙ l.invariant.all;
    }

pub returns : goal.returns
returns c =
    let l = c.loop-b in let s = l.reading in let text = c.args.text.now in let e = c.end_token.ensures in let h : room s ≤ 4096 = omega arith in
    record {
      fits = omega (arith, ap (λ (r : Reading). r.count) e, ap (λ (r : Reading). length r.list) e, ended_fits s h l.invariant.long);
      answer = ap (λ (r : Reading). take r.count r.list) e ∙ sym (gives_end s h l.invariant.long)
          ∙ ap (gives s) (sym (drop_of_length-le text {i = l.b-index} (omega arith))) ∙ l.invariant.all;
    }
