use Rattle.yaml_programs.proofs.Common.{map, string_bytes, take, text_view, ◌++◌, ◌≡◌}
use Rattle.yaml_programs.proofs.words.Words.push_files.Given as goal

abbrev pub invariant-files : goal.invariant-files
invariant-files l = record {
  files : map text_view l.self.files.items ≡ map text_view l.initial.self.files.items ++ map string_bytes (take l.file-index l.files);
  settings : l.self.settings ≡ l.initial.self.settings;
}
