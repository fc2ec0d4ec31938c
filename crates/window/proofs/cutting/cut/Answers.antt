use Rattle.window.proofs.cutting.cut.Goals as goal

pub text_of-requires-clause-named : goal.text_of-requires-clause-named
text_of-requires-clause-named c = rw (c.raw-3.ensures.same, c.as_slice-2.ensures.value) (c.in_ok-to.ensures.named c.as_slice.result.now)
