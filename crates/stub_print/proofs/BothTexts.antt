-- The texts of code that sends and of code that receives, as what they have in common.
use Rattle.std.proofs.Common.{refl}
use Rattle.cast_stub.specs.declared.put.Put.{Put}
use Rattle.cast_stub.specs.declared.recv.Get.{Get}
use Rattle.cast_stub.proofs.Directions.{sends, receives}
use Rattle.stub_print.specs.SendText as sent
use Rattle.stub_print.specs.RecvText as received
use Rattle.stub_print.proofs.Texts.{Texts}

-- the text of code that sends
abbrev pub sent_text : Texts sends Put
sent_text = record {
  text = sent.block_text;
  cases = sent.cases_text;
  words = sent.put_words;
  parts = sent.puts_text;
  subs = sent.subs_text;
  text-stop = λ rest. refl;
  text-each = λ p a b rest. refl;
  text-there = λ p a b rest. refl;
  text-switch = λ p cs b rest. refl;
  cases-none = λ rest. refl;
  cases-last = λ b rest. refl;
  cases-more = λ n b cs rest. refl;
  parts-none = λ rest. refl;
  parts-more = λ x xs rest. refl;
  subs-none = λ k rest. refl;
  subs-more = λ k b bs rest. refl;
}

-- the text of code that receives
abbrev pub received_text : Texts receives Get
received_text = record {
  text = received.block_text;
  cases = received.cases_text;
  words = received.get_words;
  parts = received.gets_text;
  subs = received.subs_text;
  text-stop = λ rest. refl;
  text-each = λ p a b rest. refl;
  text-there = λ p a b rest. refl;
  text-switch = λ p cs b rest. refl;
  cases-none = λ rest. refl;
  cases-last = λ b rest. refl;
  cases-more = λ n b cs rest. refl;
  parts-none = λ rest. refl;
  parts-more = λ x xs rest. refl;
  subs-none = λ k rest. refl;
  subs-more = λ k b bs rest. refl;
}
