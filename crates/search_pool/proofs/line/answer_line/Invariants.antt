use Rattle.search_pool.proofs.line.answer_line.Given as goal

abbrev pub ghosts-tell_trace : goal.ghosts-tell_trace
ghosts-tell_trace a = record { trace = a.indexed.now }
