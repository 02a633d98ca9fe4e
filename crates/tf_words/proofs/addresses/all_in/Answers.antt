use Rattle.std.proofs.Common.{◌+◌, ◌∙◌, sym, arith}
use Rattle.tf_words.proofs.AddressLemmas.{comma_met, byte_met}
use Rattle.tf_words.proofs.addresses.all_in.Goals.{then-byte-eq44+in_ok-address+in-Some+in_ok-push, else-byte-eq44}
use Rattle.tf_words.proofs.addresses.all_in.Goals as goal

pub loop-end-preserved : goal.loop-end-preserved
loop-end-preserved c =
    let word = c.args.word.now in
    let next = c.loop-end.end + 1 in
    elim c.if-byte-eq44.branch [
      | then-byte-eq44+in_ok-address+in-Some+in_ok-push w ↦ record {
        begins = omega (arith, w.begin-is);
        rest = rw (w.begin-is, w.addresses-is, w.in_ok-push.ensures.items)
            (c.loop-end.invariant.rest ∙ comma_met word c.loop-end.begin c.loop-end.end c.loop-end.addresses.items w.in-Some.address
            c.loop-end.invariant.begins (omega arith) w.if-byte-eq44.true (sym w.in-Some.is ∙ w.in_ok-address.ensures));
      }
      | else-byte-eq44 w ↦ record {
        begins = omega (arith, w.begin-is, c.loop-end.invariant.begins);
        rest = rw (w.begin-is, w.addresses-is)
            (c.loop-end.invariant.rest ∙ byte_met word c.loop-end.begin c.loop-end.end c.loop-end.addresses.items
            c.loop-end.invariant.begins (omega arith) w.if-byte-eq44.false);
      }
    ]
