use Rattle.calls.proofs.triage.texts.append_entries.Goals as goal

pub returns : goal.returns
returns c = simp c.as_slice.ensures.value at c.triage_entries.ensures.ok
