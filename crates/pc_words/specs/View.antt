-- A request as the program holds it, seen as a plain one.
use Rattle.pc_words.specs.Words.{Mode, replays, edits, checks, merges, posts, demonstrates, Request}
use Rattle.pc_words.specs.declared.asked.Mode.{Mode as FoundMode}
use Rattle.pc_words.specs.declared.asked.Mode.TheVariants.{Replay, Edit, Check, Merge, Posts, Demo}
use Rattle.pc_words.specs.declared.asked.Request.{Request as FoundRequest}

abbrev pub mode_of : FoundMode → Mode
mode_of Replay = replays
mode_of (Edit file) = edits file.now
mode_of (Check file) = checks file.now
mode_of (Merge file) = merges file.now
mode_of (Posts file) = posts file.now
mode_of (Demo count) = demonstrates count

abbrev pub request_of : FoundRequest → Request
request_of found = record { mode = mode_of found.mode; budget = found.budget }
