use Rattle.std.proofs.Common.{◌+◌, ap₂, map}
use Rattle.pc_cert.specs.Views.{said_of}
use Rattle.pc_cert.proofs.Grown.{made}
use Rattle.pc_cert.proofs.Gathered.{set_more}
use Rattle.pc_cert.proofs.draft.say_set.Goals as goal

pub returns : goal.returns
returns c = λ ls g at.
    let n = c.args.number in
    set_more ls c.args.draft.now n g at _ c.push.new.self (ap₂ (λ us vs. made n (map said_of us) (map said_of vs) (n + 1)) c.new.ensures.items c.new-2.ensures.items) c.in_ok-push.ensures.items
