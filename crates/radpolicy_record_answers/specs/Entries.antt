-- What a record says of a packet a line: its identifier, its request, and the reply that was captured.
use Rattle.std.specs.Prelude.{ℕ, List}
use Rattle.radpolicy_record_answers.specs.Captured.{reply_of_word, reply_word}
use Rattle.radpolicy_record_answers.specs.Records.{line_identifier, request_octets, request_taken}
use Rattle.radpolicy_record_answers.specs.declared.entries.Entry.{Entry}

abbrev pub entry_of_line : List ℕ → Entry
entry_of_line line = record {
  identifier = line_identifier line;
  request = request_taken (request_octets line);
  reply = reply_of_word (reply_word line);
}
