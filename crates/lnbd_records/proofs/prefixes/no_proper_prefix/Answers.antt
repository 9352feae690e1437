use Rattle.lnbd_records.proofs.PrefixLemmas.{hello_whole, client_flags_whole, option_request_whole, option_reply_whole}
use Rattle.lnbd_records.proofs.prefixes.no_proper_prefix.Goals as goal

pub returns-clause-hello : goal.returns-clause-hello
returns-clause-hello c = hello_whole

pub returns-clause-client_flags : goal.returns-clause-client_flags
returns-clause-client_flags c = client_flags_whole

pub returns-clause-option_request : goal.returns-clause-option_request
returns-clause-option_request c = option_request_whole

pub returns-clause-option_reply : goal.returns-clause-option_reply
returns-clause-option_reply c = option_reply_whole
