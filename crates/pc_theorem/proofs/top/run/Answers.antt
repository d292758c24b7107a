use Rattle.pc_theorem.proofs.top.run.Goals as goal

pub returns : goal.returns
returns g c =
    let e = c.run.ensures in
    let causes = c.faults_end_runs.ensures.causes _ _ _ _ _ _ e.runs in
    record {
      worth = c.runs_keep_their_word.ensures _ _ _ _ _ _ e.runs;
      runs = e.runs;
      as_asked = e.asked;
      devices = record { files_kept = causes.kept; shelf_left = e.shelf; input_left = e.input; read_fault = e.read_fault; no_read_fault = causes.no_read_fault; write_fault = causes.write_fault; no_write_fault = causes.no_write_fault };
    }
